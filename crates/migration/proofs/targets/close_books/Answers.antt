use Rattle.std.proofs.Common.{rules, ◌∙◌, ◌++◌, ◌∷◌, [], ap, sym, append_assoc}
use Rattle.std.proofs.lemmas.List.{map-append}
use Rattle.clock_book.specs.Books.{BookOf}
use Rattle.migration.specs.Targets.{disks_of}
use Rattle.migration.proofs.targets.close_books.Goals as goal

-- the disk of the last book goes to the front of the disks
pub loop-book-preserved : goal.loop-book-preserved
loop-book-preserved g c =
    let books = c.pop.new.self.items in
    let book = c.in-Some.book in
    let disks = c.loop-book.disks.items in
    record {
      same = ap (λ ds. disks_of books ++ ds) (c.push_front_reserved.ensures.items ∙ ap (λ d. d ∷ disks) c.into_parts-clock.ensures.disk)
          ∙ sym (append_assoc (disks_of books) (book.disk ∷ []) disks)
          ∙ ap (λ ds. ds ++ disks) (sym (map-append (λ (b : BookOf _). b.disk) books (book ∷ [])))
          ∙ ap (λ bs. disks_of bs ++ disks) (sym c.in-Some.ensures.items)
          ∙ c.loop-book.invariant.same;
      room = search rules;
    }
