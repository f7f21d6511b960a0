use Rattle.std.proofs.Common.{◌≡◌, ◌<◌, ◌+◌, ℕ, length, slice_index}
use Rattle.rationale.proofs.lines.rise.Given as goal

abbrev pub invariant-loop-good : goal.invariant-loop-good
invariant-loop-good l = record {
  long : length l.cells ≡ 6;
  risen : (k : ℕ) → k < l.good → slice_index l.from k + slice_index l.cells k ≡ slice_index l.to k;
}
