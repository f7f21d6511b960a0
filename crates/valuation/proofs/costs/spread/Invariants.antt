use Rattle.std.proofs.Common.{◌≡◌, ◌≤◌, ◌<◌, ℕ, length, slice_index}
use Rattle.valuation.proofs.Spread.{spread_at}
use Rattle.valuation.proofs.costs.spread.Given as goal

abbrev pub invariant-loop-place : goal.invariant-loop-place
invariant-loop-place l = record {
  whole : length l.costs.items ≡ l.place;
  high : l.size ≤ l.place;
  each : (i : ℕ) → i < l.place → slice_index l.costs.items i ≡ spread_at l.fn.costs.items l.size l.price i;
}
