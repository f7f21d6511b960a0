use Rattle.clock.specs.Reports.{histories}
use Rattle.migration.specs.Targets.{AreFronts}
use Rattle.migration.proofs.fronts.check_fronts.Given as goal

abbrev pub invariant-loop-clock : goal.invariant-loop-clock
invariant-loop-clock g l = AreFronts (histories l.clocks) l.books l.clock
