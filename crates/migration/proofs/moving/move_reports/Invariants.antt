use Rattle.migration.proofs.Offering.{HasGone}
use Rattle.migration.proofs.moving.move_reports.Given as goal

abbrev pub invariant-loop-place : goal.invariant-loop-place
invariant-loop-place g l = HasGone g.D.Disk.shown l.source.history l.place l.initial.book l.book
