use Rattle.std.proofs.Common.{false, slice_index, slice_index_or}
use Rattle.award_assembly.specs.Units.{key_of}
use Rattle.award_assembly.proofs.Writing.{IsListed}
use Rattle.award_assembly.proofs.reach.Reach.keys.Given as goal

abbrev pub invariant-loop-place : goal.invariant-loop-place
invariant-loop-place l = IsListed (λ place. key_of (slice_index_or l.totals place false) (slice_index l.units place)) l.place l.keys.items
