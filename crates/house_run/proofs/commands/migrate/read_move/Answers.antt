-- Both files are read, and then the journals.
use Rattle.std.proofs.Common.{subst, sym}
use Rattle.std.proofs.lemmas.Result.{err_from_is_err_and}
use Rattle.clock.specs.Reports.{histories}
use Rattle.house_run.specs.MoveSteps.{StopsMoving}
use Rattle.house_run.specs.Seen.{outside}
use Rattle.house_run.specs.declared.ends.Ended.{Ended}
use Rattle.house_run.proofs.MoveSteps.{journals-stop, move-read}
use Rattle.house_run.proofs.commands.migrate.read_move.Goals as goal

pub returns-in_err-files-clause-stops : goal.returns-in_err-files-clause-stops
returns-in_err-files-clause-stops g c =
    let exit = err_from_is_err_and c.from_residual.result c.from_residual.ensures.1 in
    rw (exit.1, exit.2) (λ target.
    c.in_err-files.ensures.stops c.args.journals.now target)

pub returns-in-Ok-clause-read : goal.returns-in-Ok-clause-read
returns-in-Ok-clause-read g c =
    let seen = outside g.H.Shelf c.args.shelf.now c.read_clocks.new.shelf in
    move-read c.args.old.now c.args.journals.now c.args.new.now c.in_ok-files.files.old c.in_ok-files.files.new seen (g.H.Shelf.files c.read_files.new.shelf) (g.H.Shelf.faults c.read_files.new.shelf) (g.H.Shelf.opened c.read_files.new.shelf)
    c.in_ok-files.ensures.read (histories c.in-Ok.clocks.items) c.in-Ok.ensures.done c.in-Ok.ensures.steady c.in-Ok.ensures.read

pub returns-in-Err-clause-stops : goal.returns-in-Err-clause-stops
returns-in-Err-clause-stops g c = λ target.
    let seen = outside g.H.Shelf c.args.shelf.now c.read_clocks.new.shelf in
    let unread = c.in-Err.unread in
    subst (λ (end : Ended). StopsMoving c.args.old.now c.args.journals.now c.args.new.now target seen end) (sym c.end_at.ensures)
    (journals-stop c.args.old.now c.args.journals.now c.args.new.now c.in_ok-files.files.old c.in_ok-files.files.new seen (g.H.Shelf.files c.read_files.new.shelf) (g.H.Shelf.faults c.read_files.new.shelf) (g.H.Shelf.opened c.read_files.new.shelf)
    c.in_ok-files.ensures.read target c.in-Err.ensures.synced unread.fault unread.clock c.in-Err.ensures.clock c.in-Err.ensures.ends)
