use Rattle.std.proofs.Common.{◌≤◌, ◌<◌, ◌+◌, ℕ, slice_index}
use Rattle.award_assembly.proofs.reach.fit_together.Given as goal

abbrev pub invariant-loop-good : goal.invariant-loop-good
invariant-loop-good l = (k : ℕ) → k < l.good → slice_index l.x k + slice_index l.y k ≤ slice_index l.goods k
