use Rattle.std.proofs.Common.{◌≡◌, ◌<◌, ◌≤◌, ◌+◌, ◌-◌, ℕ, length, slice_index, true, false}
use Rattle.valuation.specs.Carried.{AreAlike}
use Rattle.valuation.proofs.renewing.leave.Given as goal

abbrev pub invariant-loop-place : goal.invariant-loop-place
invariant-loop-place l = record {
  whole : length l.worth ≡ length l.fn.worth;
  left : (i : ℕ) → i < l.place → slice_index l.worth i ≡ (slice_index l.values i + 1) - slice_index l.costs i;
  behind : (i : ℕ) → l.place ≤ i → slice_index l.worth i ≡ slice_index l.fn.worth i;
  same : l.same ≡ true → AreAlike l.before l.now l.fn.worth l.worth l.place;
  other : l.same ≡ false → AreAlike l.before l.now l.fn.worth l.worth l.place → ⊥;
}
