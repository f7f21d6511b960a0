use Rattle.std.proofs.Common.{◌≡◌, ◌≤◌, ◌<◌, ℕ, length, slice_index}
use Rattle.rationale.proofs.Blocks.{spread_at}
use Rattle.rationale.proofs.placing.spread.Given as goal

abbrev pub invariant-loop-place : goal.invariant-loop-place
invariant-loop-place l = record {
  long : length l.costs ≡ length l.fn.costs;
  high : l.size ≤ l.place;
  each : (i : ℕ) → i < l.place → slice_index l.costs i ≡ spread_at l.fn.costs l.size l.price i;
}
