use Rattle.std.proofs.Common.{◌≡◌, ◌<◌, ℕ, slice_index}
use Rattle.award_assembly.proofs.reach.clears.Given as goal

abbrev pub invariant-loop-good : goal.invariant-loop-good
invariant-loop-good l = (k : ℕ) → k < l.good → slice_index l.opening k < slice_index l.prices k → slice_index l.total k ≡ slice_index l.goods k
