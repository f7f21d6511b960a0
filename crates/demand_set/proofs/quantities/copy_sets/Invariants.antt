use Rattle.std.proofs.Common.{◌≡◌, ◌<◌, ◌≤◌, ℕ, get_or, length}
use Rattle.demand_set.proofs.quantities.copy_sets.Given as goal

abbrev pub invariant-loop-set : goal.invariant-loop-set
invariant-loop-set l = record {
  kept : (set : ℕ) → set < l.set → get_or l.into set 0 ≡ get_or l.table set 0;
  places : length l.into ≡ 64;
  others : (set : ℕ) → l.set ≤ set → get_or l.into set 0 ≡ 0;
}
