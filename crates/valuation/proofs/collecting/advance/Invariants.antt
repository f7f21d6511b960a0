use Rattle.std.proofs.Common.{◌≡◌, ◌<◌, ◌≤◌, ◌+◌, ℕ, length, slice_index}
use Rattle.valuation.proofs.collecting.advance.Given as goal

abbrev pub invariant-loop-step : goal.invariant-loop-step
invariant-loop-step l = record {
  whole : length l.quantities ≡ length l.fn.quantities;
  before : (k : ℕ) → k + l.step < length l.supply → slice_index l.quantities k ≡ slice_index l.fn.quantities k;
  behind : (k : ℕ) → length l.supply ≤ k + l.step → slice_index l.quantities k ≡ 0;
  full : (k : ℕ) → length l.supply ≤ k + l.step → slice_index l.supply k ≤ slice_index l.fn.quantities k;
}
