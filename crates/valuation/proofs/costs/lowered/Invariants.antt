use Rattle.std.proofs.Common.{◌≡◌, ◌<◌, ℕ, length, slice_index}
use Rattle.valuation.specs.Carried.{low}
use Rattle.valuation.proofs.costs.lowered.Given as goal

abbrev pub invariant-loop-place : goal.invariant-loop-place
invariant-loop-place l = record {
  whole : length l.low.items ≡ l.place;
  each : (i : ℕ) → i < l.place → slice_index l.low.items i ≡ low (slice_index l.numbers i);
}
