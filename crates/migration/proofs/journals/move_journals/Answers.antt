use Rattle.std.proofs.Common.{◌≡◌, ◌∙◌, List, [], length, ap, sym, subst}
use Rattle.std.proofs.lemmas.List.{length-map, take_at}
use Rattle.clock.specs.Reports.{ClockHistory, histories}
use Rattle.clock_book.specs.Books.{BookOf}
use Rattle.migration.specs.Targets.{AreReady, AreFronts, IsFrontFault, AreOffered, disks_of}
use Rattle.migration.proofs.Lists.{no-more}
use Rattle.migration.proofs.Outcomes.{ready, not-moved, moved}
use Rattle.migration.proofs.journals.move_journals.Goals as goal

pub returns-in-Err : goal.returns-in-Err
returns-in-Err g c = c.in-Err.ensures.err (histories c.args.clocks.now)

pub move_all-answer-requires-clause-ready : goal.move_all-answer-requires-clause-ready
move_all-answer-requires-clause-ready g c =
    let o = c.in-Ok.field-0 in
    let clocks = histories c.args.clocks.now in
    let count : length clocks ≡ length c.args.disks.items = length-map c.args.clocks.now (λ k. k.history) ∙ sym c.requires.disks in
    let F : List (BookOf g.row.D.Denot) → Type 0 = λ books. AreFronts clocks books (length books) in
    let R : List (BookOf g.row.D.Denot) → Type 0 = λ books. AreReady clocks books in
    subst R (sym c.deref_mut.ensures.value)
    (ready g.D.Disk.shown c.args.terms.now c.args.digest.now clocks c.args.disks.items o.books.items c.in-Ok.ensures.ok c.in-Ok.ensures.count c.requires.clocks count
    (subst F c.deref.ensures.value c.in-Ok-check_fronts.ensures.ok))

pub returns-in-Err-check_fronts : goal.returns-in-Err-check_fronts
returns-in-Err-check_fronts g c =
    let o = c.in-Ok.field-0 in
    let clocks = histories c.args.clocks.now in
    let new = c.close_books.ensures ∙ no-more (disks_of o.books.items) o.room.items c.in-Ok.ensures.room.0 in
    let W : List (BookOf g.row.D.Denot) → Type 0 = λ books. IsFrontFault clocks books c.in-Err-check_fronts.fault in
    not-moved g.D.Disk.shown c.args.terms.now c.args.digest.now clocks c.args.disks.items o.books.items c.in-Ok.ensures.ok c.in-Ok.ensures.count c.in-Err-check_fronts.fault c.close_books.result.items new
    (subst W c.deref.ensures.value c.in-Err-check_fronts.ensures.err)

pub returns-in-Ok-check_fronts : goal.returns-in-Ok-check_fronts
returns-in-Ok-check_fronts g c =
    let o = c.in-Ok.field-0 in
    let clocks = histories c.args.clocks.now in
    let last = c.move_all-answer.new.books in
    let F : List (BookOf g.row.D.Denot) → Type 0 = λ books. AreFronts clocks books (length books) in
    let O : List (BookOf g.row.D.Denot) → Type 0 = λ books. AreOffered g.D.Disk.shown clocks books last c.move_all-answer.result in
    let long = c.move_all-answer.ensures.count ∙ c.deref_mut.ensures.len in
    let new : c.close_books-in-Ok-check_fronts.result.items ≡ disks_of last = c.close_books-in-Ok-check_fronts.ensures ∙ no-more _ o.room.items c.in-Ok.ensures.room.0 ∙ ap disks_of (take_at last _ o.books.len long) in
    let none : ClockHistory = record { terms = c.args.terms.now; number = 0; reports = [] } in
    moved g.D.Disk.shown c.args.terms.now c.args.digest.now clocks c.args.disks.items o.books.items c.in-Ok.ensures.ok c.in-Ok.ensures.count last (subst F c.deref.ensures.value c.in-Ok-check_fronts.ensures.ok)
    c.close_books-in-Ok-check_fronts.result.items c.move_all-answer.result none new (subst O c.deref_mut.ensures.value c.move_all-answer.ensures)
