use Rattle.std.proofs.Common.{◌≡◌, ℕ, None, length}
use Rattle.std.specs.Prelude.{slice_index_or}
use Rattle.rationale.proofs.settling.no_parents.Given as goal

abbrev pub invariant-loop-place : goal.invariant-loop-place
invariant-loop-place l = record {
  long : length l.parents.items ≡ l.place;
  each : (i : ℕ) → slice_index_or l.parents.items i None ≡ None;
}
