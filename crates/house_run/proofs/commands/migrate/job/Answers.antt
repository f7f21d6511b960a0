-- Both files and the journals are read, then the reports are moved, and then the lines are written.
use Rattle.std.proofs.Common.{◌∙◌, List, ap, subst, sym}
use Rattle.std.proofs.lemmas.Result.{err_from_is_err_and}
use Rattle.std.specs.List.{flat_map}
use Rattle.clock.specs.Reports.{ClockOf, histories}
use Rattle.migration.specs.Moving.{AreClocksAs}
use Rattle.house_run.specs.MigrateCommand.{moved_line}
use Rattle.house_run.specs.MovingJournals.{JournalsMoved, JournalsNotMoved}
use Rattle.house_run.specs.Seen.{outside, shelf_seen}
use Rattle.house_run.specs.declared.ends.Ended.TheVariants as how
use Rattle.house_run.proofs.MoveSteps.{clocks-as, moved-done, not-moved, targets-frame}
use Rattle.house_run.proofs.commands.migrate.job.Goals as goal

pub returns-in_err-found-clause-answer : goal.returns-in_err-found-clause-answer
returns-in_err-found-clause-answer g c =
    let exit = err_from_is_err_and c.from_residual.result c.from_residual.ensures.1 in
    rw (exit.1, exit.2) (λ net.
    (c.in_err-found.ensures.stops c.args.target.now).cause net)

pub returns-in_err-found-clause-frame : goal.returns-in_err-found-clause-frame
returns-in_err-found-clause-frame g c =
    let exit = err_from_is_err_and c.from_residual.result c.from_residual.ensures.1 in
    rw (exit.1, exit.2) ((c.in_err-found.ensures.stops c.args.target.now).frame)

pub move_to-requires-clause-clocks : goal.move_to-requires-clause-clocks
move_to-requires-clause-clocks g c κs within =
    subst (λ (cs : List ClockOf). AreClocksAs c.in_ok-found.found.auction.terms (histories cs)) (sym c.deref.ensures.value)
    (clocks-as _ c.args.old.now c.args.journals.now c.args.new.now (histories c.in_ok-found.found.clocks.items) c.in_ok-found.found.auction.terms c.in_ok-found.found.auction.digest c.in_ok-found.ensures.read.move)

pub returns-in_err-move_to-clause-answer : goal.returns-in_err-move_to-clause-answer
returns-in_err-move_to-clause-answer g c =
    let exit = err_from_is_err_and c.from_residual-in_err-move_to.result c.from_residual-in_err-move_to.ensures.1 in
    rw (exit.1, exit.2) (λ net.
    let seen = outside g.H.Shelf c.args.shelf.now c.move_to.new.shelf in
    let second = c.in_ok-found.found.auction in
    let since = shelf_seen g.H.Shelf c.read_move.new.shelf c.move_to.new.shelf in
    not-moved c.args.old.now c.args.journals.now c.args.new.now c.args.target.now second (histories c.in_ok-found.found.clocks.items) seen (g.H.Shelf.files c.read_move.new.shelf) (g.H.Shelf.faults c.read_move.new.shelf) (g.H.Shelf.opened c.read_move.new.shelf)
    c.requires c.in_ok-found.ensures.read c.in_err-move_to.field-0.0 net
    (subst (λ (cs : List ClockOf). JournalsNotMoved second (histories cs) c.args.target.now since c.in_err-move_to.field-0.0) c.deref.ensures.value c.in_err-move_to.ensures))

pub returns-in_err-move_to-clause-frame : goal.returns-in_err-move_to-clause-frame
returns-in_err-move_to-clause-frame g c =
    let exit = err_from_is_err_and c.from_residual-in_err-move_to.result c.from_residual-in_err-move_to.ensures.1 in
    let seen = outside g.H.Shelf c.args.shelf.now c.move_to.new.shelf in
    let second = c.in_ok-found.found.auction in
    let since = shelf_seen g.H.Shelf c.read_move.new.shelf c.move_to.new.shelf in
    rw (exit.1, exit.2) (targets-frame c.args.old.now c.args.journals.now c.args.new.now c.args.target.now second (histories c.in_ok-found.found.clocks.items) seen (g.H.Shelf.files c.read_move.new.shelf) (g.H.Shelf.faults c.read_move.new.shelf) (g.H.Shelf.opened c.read_move.new.shelf)
    c.requires c.in_ok-found.ensures.read c.in_err-move_to.field-0.0
    (subst (λ (cs : List ClockOf). JournalsNotMoved second (histories cs) c.args.target.now since c.in_err-move_to.field-0.0) c.deref.ensures.value c.in_err-move_to.ensures).keeps)

pub returns-in-Ok-clause-answer : goal.returns-in-Ok-clause-answer
returns-in-Ok-clause-answer g c = λ net.
    let seen = outside g.H.Shelf c.args.shelf.now c.move_to.new.shelf in
    let second = c.in_ok-found.found.auction in
    let since = shelf_seen g.H.Shelf c.read_move.new.shelf c.move_to.new.shelf in
    moved-done c.args.old.now c.args.journals.now c.args.new.now c.args.target.now second (histories c.in_ok-found.found.clocks.items) seen (g.H.Shelf.files c.read_move.new.shelf) (g.H.Shelf.faults c.read_move.new.shelf) (g.H.Shelf.opened c.read_move.new.shelf)
    c.requires c.in_ok-found.ensures.read c.in-Ok.text.items
    (subst (λ (cs : List ClockOf). JournalsMoved second (histories cs) c.args.target.now since) c.deref.ensures.value c.in_ok-move_to.ensures)
    (c.in-Ok.ensures ∙ ap (λ (cs : List ClockOf). flat_map moved_line (histories cs)) c.deref-2.ensures.value)

pub returns-in-Ok-clause-frame : goal.returns-in-Ok-clause-frame
returns-in-Ok-clause-frame g c =
    let seen = outside g.H.Shelf c.args.shelf.now c.move_to.new.shelf in
    let second = c.in_ok-found.found.auction in
    let since = shelf_seen g.H.Shelf c.read_move.new.shelf c.move_to.new.shelf in
    targets-frame c.args.old.now c.args.journals.now c.args.new.now c.args.target.now second (histories c.in_ok-found.found.clocks.items) seen (g.H.Shelf.files c.read_move.new.shelf) (g.H.Shelf.faults c.read_move.new.shelf) (g.H.Shelf.opened c.read_move.new.shelf)
    c.requires c.in_ok-found.ensures.read how.Done
    (subst (λ (cs : List ClockOf). JournalsMoved second (histories cs) c.args.target.now since) c.deref.ensures.value c.in_ok-move_to.ensures).keeps

pub returns-clause-frame : goal.returns-clause-frame
returns-clause-frame g c =
    let seen = outside g.H.Shelf c.args.shelf.now c.move_to.new.shelf in
    let second = c.in_ok-found.found.auction in
    let since = shelf_seen g.H.Shelf c.read_move.new.shelf c.move_to.new.shelf in
    let keeps = (subst (λ (cs : List ClockOf). JournalsMoved second (histories cs) c.args.target.now since) c.deref.ensures.value c.in_ok-move_to.ensures).keeps in
    targets-frame c.args.old.now c.args.journals.now c.args.new.now c.args.target.now second (histories c.in_ok-found.found.clocks.items) seen (g.H.Shelf.files c.read_move.new.shelf) (g.H.Shelf.faults c.read_move.new.shelf) (g.H.Shelf.opened c.read_move.new.shelf)
    c.requires c.in_ok-found.ensures.read how.NoMemory (record { others = keeps.others; left = keeps.left; told = keeps.told; counts = keeps.counts; front = keeps.front; few = keeps.few; names = keeps.names })
