use Rattle.house_run.specs.Seen.{shelf_seen}
use Rattle.house_run.proofs.DiskSteps.{Closing}
use Rattle.house_run.proofs.disks.close_journals.Given as goal

-- the journals before this one were given back
abbrev pub invariant-loop-name : goal.invariant-loop-name
invariant-loop-name g l = Closing g.H.Disk.Disk.shown l.names l.fn.disks.items l.rest.items l.name-index (shelf_seen g.H.Shelf l.initial.shelf l.shelf)
