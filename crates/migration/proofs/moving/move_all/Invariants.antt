use Rattle.clock.specs.Reports.{histories}
use Rattle.migration.proofs.Offering.{ArePartly}
use Rattle.migration.proofs.moving.move_all.Given as goal

abbrev pub invariant-loop-clock : goal.invariant-loop-clock
invariant-loop-clock g l = ArePartly g.D.Disk.shown (histories l.clocks) l.initial.books l.books l.clock
