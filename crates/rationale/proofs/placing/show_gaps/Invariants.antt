use Rattle.std.proofs.Common.{◌≡◌, ◌<◌, ℕ, length, slice_index}
use Rattle.rationale.proofs.placing.show_gaps.Given as goal

abbrev pub invariant-loop-j : goal.invariant-loop-j
invariant-loop-j l = record {
  long : length l.gaps ≡ length l.fn.gaps;
  there : (j : ℕ) → j < l.j → slice_index l.gaps (slice_index l.places j) ≡ 0;
  away : (k : ℕ) → k < length l.fn.gaps → ((j : ℕ) → j < l.j → slice_index l.places j ≡ k → ⊥) → slice_index l.gaps k ≡ 1;
}
