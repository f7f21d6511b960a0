use Rattle.std.proofs.Common.{false, ◌||◌, ◌+◌, nat_eq, slice_index, slice_index_or}
use Rattle.award_assembly.proofs.Writing.{IsReplaced}
use Rattle.award_assembly.proofs.reach.join_matching.Given as goal

abbrev pub invariant-loop-place : goal.invariant-loop-place
invariant-loop-place l = IsReplaced (λ place. slice_index_or l.initial.totals place false || nat_eq (slice_index l.keys place) (slice_index l.units place + l.more)) l.place l.initial.totals l.totals
