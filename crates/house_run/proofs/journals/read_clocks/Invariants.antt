use Rattle.clock.specs.Reports.{histories}
use Rattle.house_run.specs.Seen.{shelf_seen}
use Rattle.house_run.proofs.JournalSteps.{Reading}
use Rattle.house_run.proofs.journals.read_clocks.Given as goal

-- the journals of the clocks before this one were read, and no count rose
abbrev pub invariant-clocks : goal.invariant-clocks
invariant-clocks g l = Reading (shelf_seen g.H.Shelf l.initial.shelf l.shelf) l.terms l.digest l.journals l.clock (histories l.clocks.items)
