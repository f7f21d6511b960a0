use Rattle.std.proofs.Common.{◌≡◌, ◌≢◌, ◌<◌, ◌≤◌, ℕ, false, slice_index}
use Rattle.valuation.proofs.collecting.is_any_best.Given as goal

abbrev pub invariant-loop-place : goal.invariant-loop-place
invariant-loop-place l = l.found ≡ false → (i : ℕ) → l.first ≤ i → i < l.place → slice_index l.worth i ≢ l.best
