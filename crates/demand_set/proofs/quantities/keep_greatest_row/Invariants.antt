use Rattle.std.proofs.Common.{◌≡◌, ◌*◌, ◌+◌, ◌<◌, ◌≤◌, ℕ, get_or, max}
use Rattle.demand_set.proofs.quantities.keep_greatest_row.Given as goal

abbrev pub invariant-loop-set : goal.invariant-loop-set
invariant-loop-set l = record {
  kept : (set : ℕ) → set < l.set → get_or l.table (8 * l.row + set) 0 ≡ max (get_or l.initial.table (8 * l.row + set) 0) (get_or l.sums set 0 + l.more);
  before : (place : ℕ) → place < 8 * l.row → get_or l.table place 0 ≡ get_or l.initial.table place 0;
  behind : (place : ℕ) → 8 * l.row + l.set ≤ place → get_or l.table place 0 ≡ get_or l.initial.table place 0;
}
