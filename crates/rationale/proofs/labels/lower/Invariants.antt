use Rattle.std.proofs.Common.{◌≡◌, ◌<◌, ◌≤◌, ℕ, None, length, slice_index}
use Rattle.std.specs.Prelude.{slice_index_or, IfSome, IfNone}
use Rattle.rationale.specs.Steps.{AreSteps}
use Rattle.rationale.proofs.labels.lower.Given as goal

abbrev pub invariant-loop-place : goal.invariant-loop-place
invariant-loop-place l = record {
  labels : length l.labels ≡ length l.fn.labels;
  parents : length l.parents ≡ length l.fn.labels;
  steps : AreSteps l.excess l.costs l.gaps l.new l.fn.labels l.fn.parents l.labels l.parents l.place;
  behind : (k : ℕ) → l.place ≤ k → slice_index l.labels k ≡ slice_index l.fn.labels k;
  parents_behind : (k : ℕ) → l.place ≤ k → slice_index_or l.parents k None ≡ slice_index_or l.fn.parents k None;
  some : IfSome l.last (λ y. (y < length l.fn.labels) × (slice_index l.labels y < slice_index l.fn.labels y));
  none : IfNone l.last ((y : ℕ) → y < l.place → slice_index l.labels y ≡ slice_index l.fn.labels y);
}
