use Rattle.std.proofs.Common.{length}
use Rattle.house_run.proofs.GivingSteps.{DoorsBack}
use Rattle.house_run.proofs.giving_back.close_doors.Given as goal

-- the doors before these were given back
abbrev pub invariant-loop-door : goal.invariant-loop-door
invariant-loop-door g l = DoorsBack g.N.Door.Door.faults l.fn.doors.items l.rest.items (g.N.Net.told l.initial.net) (g.N.Net.told l.net) (g.N.Net.faults l.initial.net) (g.N.Net.faults l.net)

abbrev pub decreases-loop-door : goal.decreases-loop-door
decreases-loop-door g l = length l.rest.items
