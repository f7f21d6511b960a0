use Rattle.std.proofs.Common.{rules, arith, ◌≡◌, ℕ, ◌+◌, ◌<◌, ◌≤◌, List, [], ◌∷◌, ◌++◌, ◌∙◌, ap, sym, subst, length, reverse, refl, append-nil, append_assoc, length-append, vec_len}
use Rattle.std.specs.List.{AllByRecursion}
use Rattle.std.proofs.lemmas.List.{reverse-append}
use Rattle.turn_desk.specs.Passes.{Opened, Known, AreAll, Closes}
use Rattle.clock_book.specs.Books.{BookOf}
use Rattle.clock_book.specs.declared.entries.Entry.{Entry}
use Rattle.clock_book.specs.declared.origins.Origin.{Origin}
use Rattle.clock_family.specs.Closing.{IsSpare}
use Rattle.clock_family.specs.Houses.{AreClosed, column}
use Rattle.clock_family.specs.Rows.{fronts, rows_of}
use Rattle.clock_family.proofs.Rows.{fronts-all, each-front, fronts-fronts, all-rows, all-passes, all-popped}
use Rattle.clock_family.proofs.Closed.{AreClosedFrom, none-closed, closed-more, all-closed, last-desk, column-left}
use Rattle.clock_family.proofs.clock_passes.close_all.Goals as goal

pub loop-desk-init : goal.loop-desk-init
loop-desk-init g c = record {
  done = ([], sym (append-nil c.args.desks.items));
  closed = none-closed c.args.desks.items c.args.rows.now.items c.args.books.items c.requires.reserved.books_are.empty;
  rows = sym (fronts-all (length c.args.desks.items) (rows_of c.args.rows.now.items) (all-rows _ _ c.requires.rows));
  many = refl;
  lists = c.requires.lists;
  spare = c.requires.reserved.lists_are;
  room = (let a = c.requires.reserved.books_are.empty in let b = c.requires.reserved.books_are.room_is in let d = c.requires.lists in search rules);
}

pub take_column-requires-clause-rows : goal.take_column-requires-clause-rows
take_column-requires-clause-rows g c =
    let i = c.loop-desk.invariant in
    let rows = rows_of c.args.rows.now.items in
    let at : length c.loop-desk.desks.items ≡ c.len.result + 1 = search rules in
    let le : length c.loop-desk.desks.items ≤ length c.args.desks.items = (let a = ap length i.done.1 in let b = length-append c.loop-desk.desks.items i.done.0 in omega arith) in
    let cut = each-front (length c.loop-desk.desks.items) (length c.args.desks.items) rows le (all-rows _ _ c.requires.rows) in
    let Long : ℕ → List (List (Known Entry Origin)) → Type 0 = λ n. AllByRecursion (λ (r : List (Known Entry Origin)). length r ≡ n) in
    all-passes _ _ (subst (Long (c.len.result + 1)) (sym i.rows) (subst (λ (n : ℕ). Long n (fronts (length c.loop-desk.desks.items) rows)) at cut))

pub take_column-requires-clause-empty : goal.take_column-requires-clause-empty
take_column-requires-clause-empty g c =
    let is : c.loop-desk.lists.items ≡ c.pop-in-Some.new.self.items ++ c.unwrap-list.result ∷ [] = search rules in
    (all-popped (IsSpare (vec_len c.args.rows.now)) _ _ _ is c.loop-desk.invariant.spare).1.empty

pub take_column-requires-clause-room : goal.take_column-requires-clause-room
take_column-requires-clause-room g c =
    let is : c.loop-desk.lists.items ≡ c.pop-in-Some.new.self.items ++ c.unwrap-list.result ∷ [] = search rules in
    let fits = (all-popped (IsSpare (vec_len c.args.rows.now)) _ _ _ is c.loop-desk.invariant.spare).1.room_is in
    let many = c.loop-desk.invariant.many in
    omega (arith, fits, many)

pub close-book-requires : goal.close-book-requires
close-book-requires g c =
    let i = c.loop-desk.invariant in
    let is : c.loop-desk.desks.items ≡ c.pop.new.self.items ++ c.in-Some.desk ∷ [] = search rules in
    let at : c.len.result ≡ length c.pop.new.self.items = search rules in
    let m : ℕ = c.len.result in
    let less : m < length c.loop-desk.desks.items = search rules in
    let within : m < length c.args.desks.items = (let a = ap length i.done.1 in let b = length-append c.loop-desk.desks.items i.done.0 in omega (arith, less, a, b)) in
    let here = last-desk c.args.desks.items c.args.rows.now.items c.pop.new.self.items i.done.0 c.in-Some.desk m (i.done.1 ∙ ap (λ z. z ++ i.done.0) is) at c.in-Some.desk in
    let col = c.take_column.ensures.list ∙ column-left c.loop-desk.rows.items c.args.rows.now.items m (length c.loop-desk.desks.items) i.rows less in
    let All : Opened (BookOf g.row.D.Denot) → List (Known Entry Origin) → Type 0 = λ d ps. AreAll d.id ps in
    record { all = subst (All c.in-Some.desk) (sym col) (subst (λ d. All d (column m c.args.rows.now.items)) here (c.requires.columns m c.in-Some.desk within)) }

pub returns : goal.returns
returns g c =
    let i = c.loop-desk.invariant in
    let none : length c.loop-desk.desks.items ≡ 0 = search rules in
    let Closed : List (BookOf g.row.D.Denot) → Type 0 = λ books. AreClosed c.args.desks.items c.args.rows.now.items books in
    record { closed = subst Closed (sym c.reverse.ensures.items) (all-closed c.args.desks.items c.args.rows.now.items (length c.loop-desk.desks.items) (reverse c.loop-desk.books.items) none i.closed) }

pub loop-desk-preserved : goal.loop-desk-preserved
loop-desk-preserved g c =
    let i = c.loop-desk.invariant in
    let rows = rows_of c.args.rows.now.items in
    let is : c.loop-desk.desks.items ≡ c.pop.new.self.items ++ c.in-Some.desk ∷ [] = search rules in
    let lists_are : c.loop-desk.lists.items ≡ c.pop-in-Some.new.self.items ++ c.unwrap-list.result ∷ [] = search rules in
    let at : c.len.result ≡ length c.pop.new.self.items = search rules in
    let m : ℕ = c.len.result in
    let more : length c.loop-desk.desks.items ≡ m + 1 = search rules in
    let less : m < length c.loop-desk.desks.items = omega (arith, more) in
    let whole = i.done.1 ∙ ap (λ z. z ++ i.done.0) is in
    let here = last-desk c.args.desks.items c.args.rows.now.items c.pop.new.self.items i.done.0 c.in-Some.desk m whole at in
    let col = c.take_column.ensures.list ∙ column-left c.loop-desk.rows.items c.args.rows.now.items m (length c.loop-desk.desks.items) i.rows less in
    let k = c.close-book.ensures in
    let Is : BookOf g.row.D.Denot → List (Known Entry Origin) → Type 0 = λ b ps. Closes (λ (x : BookOf g.row.D.Denot). x.state.history) (λ (x : BookOf g.row.D.Denot). x.origin) c.in-Some.desk.book ps b in
    let Closed = Is c.close-book.result in
    let closed : Closed (column m c.args.rows.now.items) = subst Closed col (record { origin_is = k.origin_is; goes_on = k.goes_on; seen = k.seen; also = k.also; own = k.own; places = k.places }) in
    let closed = subst (λ (b : BookOf g.row.D.Denot). Is b (column m c.args.rows.now.items)) (sym c.into_book.ensures) closed in
    let back : reverse c.push_reserved.new.self.items ≡ c.into_book.result ∷ reverse c.loop-desk.books.items = ap reverse c.push_reserved.ensures.items ∙ reverse-append c.loop-desk.books.items (c.into_book.result ∷ []) in
    let From : ℕ → List (BookOf g.row.D.Denot) → Type 0 = λ n. AreClosedFrom n c.args.desks.items c.args.rows.now.items in
    let next = closed-more c.args.desks.items c.args.rows.now.items m c.in-Some.desk c.into_book.result (reverse c.loop-desk.books.items) (subst (λ (n : ℕ). From n (reverse c.loop-desk.books.items)) more i.closed) here closed in
    record {
      done = (c.in-Some.desk ∷ i.done.0, whole ∙ append_assoc c.pop.new.self.items (c.in-Some.desk ∷ []) i.done.0);
      closed = subst (From (length c.pop.new.self.items)) (sym back) (subst (λ (n : ℕ). From n (c.into_book.result ∷ reverse c.loop-desk.books.items)) at next);
      rows = c.take_column.ensures.rows ∙ (ap (fronts m) i.rows ∙ (fronts-fronts m (length c.loop-desk.desks.items) rows (omega (arith, less)) ∙ ap (λ (z : ℕ). fronts z rows) at));
      many = c.take_column.ensures.count ∙ i.many;
      lists = (let a = ap length lists_are in let b = length-append c.pop-in-Some.new.self.items (c.unwrap-list.result ∷ []) in let d = i.lists in omega (arith, a, b, d, more, at));
      spare = (all-popped (IsSpare (vec_len c.args.rows.now)) _ _ _ lists_are i.spare).0;
      room = search rules;
    }
