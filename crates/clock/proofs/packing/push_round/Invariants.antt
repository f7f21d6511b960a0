use Rattle.std.proofs.Common.{◌≡◌, take, drop}
use Rattle.std.specs.Prelude.{map}
use Rattle.clock.specs.Past.{again_among, with_again}
use Rattle.clock.specs.Reports.{members}
use Rattle.clock.proofs.packing.push_round.Given as goal

abbrev pub invariant-loop-step : goal.invariant-loop-step
invariant-loop-step l = l.past ≡ with_again l.initial.past (map (again_among (take l.reports (drop l.from l.initial.past.reports)) l.round) (members l.step l.clock))
