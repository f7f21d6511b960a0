use Rattle.std.proofs.Common.{rules, ◌≡◌, ◌∙◌, ◌<◌, ℕ, List, length, get_or, set, sym, ap, subst, arith, vec_len}
use Rattle.std.specs.List.{AllByRecursion}
use Rattle.clock_book.specs.declared.entries.Entry.{Entry}
use Rattle.clock_book.specs.declared.origins.Origin.{Origin}
use Rattle.turn_desk.specs.Passes.{Opened, Known, AreAll}
use Rattle.clock_book.specs.Books.{BookOf}
use Rattle.clock_family.specs.Closing.{IsReserved}
use Rattle.clock_family.specs.Houses.{HouseOf, HousePassOf, AreClosed, column}
use Rattle.clock_family.specs.Rows.{rows_of}
use Rattle.clock_family.proofs.Rows.{all-rows, all-passes}
use Rattle.clock_family.proofs.Closed.{some-pass, first-room, first-long, same-rows, same-column, closed-alike}
use Rattle.clock_family.proofs.houses.House.close.Goals as goal

pub index_mut-requires : goal.index_mut-requires
index_mut-requires g c =
    let some : 0 < length c.args.self.desks = (let a = ap (λ (h : HouseOf g.row.D.Denot). length h.desks) c.self.view_is in let b = c.self.invariant in omega (arith, a, b)) in
    let many = some-pass c.args.self.desks c.args.passes.items some c.requires.all in
    search rules

pub take_closing-closing-requires : goal.take_closing-closing-requires
take_closing-closing-requires g c =
    let some : 0 < length c.args.self.desks = (let a = ap (λ (h : HouseOf g.row.D.Denot). length h.desks) c.self.view_is in let b = c.self.invariant in omega (arith, a, b)) in
    let many = some-pass c.args.self.desks c.args.passes.items some c.requires.all in
    let room = first-room c.args.self.desks c.args.passes.items c.index_mut.result.now c.index_mut.ensures.value many c.requires.all in
    omega (arith, many, room)

pub close_all-requires-clause-rows : goal.close_all-requires-clause-rows
close_all-requires-clause-rows g c =
    let new = c.take_closing-closing.new.self in
    let same = same-rows c.args.passes.items c.index_mut.result.now new c.index_mut.ensures.value c.take_closing-closing.ensures.passes in
    let count : length c.args.self.desks ≡ length c.self.inside.desks.items = sym (ap (λ (h : HouseOf g.row.D.Denot). length h.desks) c.self.view_is) in
    let Long : ℕ → List (List (Known Entry Origin)) → Type 0 = λ n. AllByRecursion (λ (r : List (Known Entry Origin)). length r ≡ n) in
    let all : Long (length c.args.self.desks) (rows_of c.args.passes.items) = all-rows (length c.args.self.desks) c.args.passes.items c.requires.all.rows in
    all-passes (length c.self.inside.desks.items) (set c.args.passes.items 0 new) (subst (Long (length c.self.inside.desks.items)) (sym same) (subst (λ (n : ℕ). Long n (rows_of c.args.passes.items)) count all))

pub close_all-requires-clause-columns : goal.close_all-requires-clause-columns
close_all-requires-clause-columns g c =
    let new = c.take_closing-closing.new.self in
    let same = same-rows c.args.passes.items c.index_mut.result.now new c.index_mut.ensures.value c.take_closing-closing.ensures.passes in
    let now = set c.args.passes.items 0 new in
    let All : List (Opened (BookOf g.row.D.Denot)) → Type 0 = λ ds. (k : ℕ) (d : Opened (BookOf g.row.D.Denot)) → k < length ds → AreAll (get_or ds k d).id (column k now) in
    let all : All c.args.self.desks = λ k d below. subst (λ ps. AreAll (get_or c.args.self.desks k d).id ps) (sym (same-column now c.args.passes.items k same)) (c.requires.all.columns k d below) in
    subst (λ (h : HouseOf g.row.D.Denot). All h.desks) (sym c.self.view_is) all

pub close_all-requires-clause-lists : goal.close_all-requires-clause-lists
close_all-requires-clause-lists g c =
    let some : 0 < length c.args.self.desks = (let a = ap (λ (h : HouseOf g.row.D.Denot). length h.desks) c.self.view_is in let b = c.self.invariant in omega (arith, a, b)) in
    let many = some-pass c.args.self.desks c.args.passes.items some c.requires.all in
    let count = ap (λ (h : HouseOf g.row.D.Denot). length h.desks) c.self.view_is in
    let long = first-long c.args.self.desks c.args.passes.items c.index_mut.result.now c.index_mut.ensures.value many c.requires.all in
    let clocks = c.take_closing-closing.ensures.clocks in
    let lists = c.into_lists-lists.ensures.clocks in
    omega (arith, count, long, clocks, lists)

pub close_all-requires-clause-reserved : goal.close_all-requires-clause-reserved
close_all-requires-clause-reserved g c =
    let some : 0 < length c.args.self.desks = (let a = ap (λ (h : HouseOf g.row.D.Denot). length h.desks) c.self.view_is in let b = c.self.invariant in omega (arith, a, b)) in
    let many = some-pass c.args.self.desks c.args.passes.items some c.requires.all in
    let room = c.take_closing-closing.ensures.room ∙ first-room c.args.self.desks c.args.passes.items c.index_mut.result.now c.index_mut.ensures.value many c.requires.all in
    let len : length c.args.passes.items ≡ vec_len c.args.passes = search rules in
    subst (λ (n : ℕ). IsReserved n c.into_lists-lists.result.0.items c.into_lists-lists.result.1) (room ∙ len) c.into_lists-lists.ensures.reserved

pub returns : goal.returns
returns g c =
    let new = c.take_closing-closing.new.self in
    let same = same-rows c.args.passes.items c.index_mut.result.now new c.index_mut.ensures.value c.take_closing-closing.ensures.passes in
    let now = set c.args.passes.items 0 new in
    let Closed : List (Opened (BookOf g.row.D.Denot)) → List HousePassOf → Type 0 = λ ds ps. AreClosed ds ps c.close_all.result.items in
    let closed : Closed c.args.self.desks now = subst (λ (h : HouseOf g.row.D.Denot). Closed h.desks now) c.self.view_is c.close_all.ensures.closed in
    record { closed = closed-alike c.args.self.desks now c.args.passes.items c.close_all.result.items same closed }
