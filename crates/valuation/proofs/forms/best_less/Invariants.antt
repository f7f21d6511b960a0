use Rattle.std.proofs.Common.{◌≤◌, ◌<◌, ◌-◌, ℕ, length, slice_index}
use Rattle.lot_base.specs.Goods.{at}
use Rattle.valuation.proofs.forms.best_less.Given as goal

abbrev pub invariant-loop-good : goal.invariant-loop-good
invariant-loop-good l = record {
  bound : (k : ℕ) → k < l.good → 0 < at l.x k → slice_index l.worth (l.index - slice_index l.steps k) ≤ l.best;
  least : (top : ℕ) → ((k : ℕ) → k < length l.x → 0 < at l.x k → slice_index l.worth (l.index - slice_index l.steps k) ≤ top) → l.best ≤ top;
}
