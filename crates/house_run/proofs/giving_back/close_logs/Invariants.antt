use Rattle.std.proofs.Common.{◌≡◌, ◌≤◌, ◌+◌, ◌++◌, length, map, vec_capacity}
use Rattle.house_run.proofs.GivingSteps.{DoorsBack}
use Rattle.house_run.proofs.giving_back.close_logs.Given as goal

-- the doors before these were given back, and the ends of their sessions kept
abbrev pub invariant-loop-log : goal.invariant-loop-log
invariant-loop-log g l = record {
  doors : DoorsBack g.N.Door.Door.faults (map (λ log. log.door) l.fn.logs.items) (map (λ log. log.door) l.rest.items) (g.N.Net.told l.initial.net) (g.N.Net.told l.net) (g.N.Net.faults l.initial.net) (g.N.Net.faults l.net);
  ends : map (λ v. v.items) l.ends.items ++ map (λ log. log.ends.items) l.rest.items ≡ map (λ log. log.ends.items) l.fn.logs.items;
  room : length l.ends.items + length l.rest.items ≤ vec_capacity l.ends;
}

abbrev pub decreases-loop-log : goal.decreases-loop-log
decreases-loop-log g l = length l.rest.items
