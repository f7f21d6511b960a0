use Rattle.std.proofs.Common.{length, ◌≡◌, ◌≤◌, ◌<◌, ℕ, pos, ◌-ℤ◌}
use Rattle.lot_base.specs.Goods.{quantity_in}
use Rattle.lyapunov.specs.Excesses.{entry}
use Rattle.lyapunov.proofs.opening.Given as goal

abbrev pub invariant-loop-set : goal.invariant-loop-set
invariant-loop-set l = record {
  size : length l.excess.0 ≡ 64;
  before : (k : ℕ) → k < l.set → entry l.excess.0 k ≡ pos 0 -ℤ pos (quantity_in l.goods k);
  behind : (k : ℕ) → l.set ≤ k → entry l.excess.0 k ≡ pos 0;
}
