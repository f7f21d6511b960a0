use Rattle.std.proofs.Common.{◌≡◌, ◌<◌, ◌+◌, ◌-◌, ℕ, length, slice_index}
use Rattle.valuation.proofs.surpluses.left_of.Given as goal

abbrev pub invariant-loop-place : goal.invariant-loop-place
invariant-loop-place l = record {
  whole : length l.worth.items ≡ l.place;
  each : (i : ℕ) → i < l.place → slice_index l.worth.items i ≡ (slice_index l.values i + 1) - slice_index l.costs i;
}
