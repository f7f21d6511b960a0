use Rattle.std.proofs.Common.{rules, arith, ◌≡◌, ◌<◌, List, [], ◌∙◌, ap, sym, subst, length, get_or, append-nil, length-append, vec_capacity}
use Rattle.std.specs.List.{AllByRecursion}
use Rattle.std.specs.Vec.Iter.{into_iter_items}
use Rattle.std.proofs.lemmas.List.{get_or-map, length-map}
use Rattle.clock_book.specs.declared.entries.Entry.{Entry}
use Rattle.clock_book.specs.declared.origins.Origin.{Origin}
use Rattle.turn_desk.specs.Passes.{Known}
use Rattle.clock_family.specs.Houses.{HousePassOf}
use Rattle.clock_family.specs.Rows.{items_of, rows_of}
use Rattle.clock_family.proofs.Rows.{all-at}
use Rattle.clock_family.proofs.Closed.{same-rows}
use Rattle.clock_family.proofs.Deals.{no-more, room-set}
use Rattle.clock_family.proofs.dealing.gather.Goals as goal

pub push_reserved-requires : goal.push_reserved-requires
push_reserved-requires g c =
    let i = c.loop-row.invariant in
    let steps = ap length c.in-Some.ensures.steps.0 in
    let same = ap length i.same in
    let both = length-append c.loop-row.yielded (into_iter_items c.loop-row.row-iterator) in
    let made = ap length i.passes in
    let one = length-map c.loop-row.passes.items (λ (p : HousePassOf). p.passes) in
    let two = length-map c.loop-row.yielded (λ v. v.items) in
    let space = i.space in
    let less : length c.loop-row.passes.items < vec_capacity c.loop-row.passes = omega (arith, steps, same, both, made, one, two, space) in
    search rules

pub index_mut-requires : goal.index_mut-requires
index_mut-requires g c =
    let i = c.loop-row.invariant in
    let none = c.in-None.ensures.steps in
    let empty : into_iter_items c.loop-row.row-iterator ≡ [] = no-more _ (sym i.left ∙ none.0) in
    let all : c.loop-row.yielded ≡ c.args.rows.items = sym (append-nil c.loop-row.yielded) ∙ rw empty at i.same in
    let made = ap length (i.passes ∙ ap items_of all) in
    let one = length-map c.loop-row.passes.items (λ (p : HousePassOf). p.passes) in
    let two = length-map c.args.rows.items (λ v. v.items) in
    let some = c.requires.some in
    let less : 0 < length c.loop-row.passes.items = omega (arith, made, one, two, some) in
    search rules

pub give_closing-requires : goal.give_closing-requires
give_closing-requires g c =
    let i = c.loop-row.invariant in
    let none = c.in-None.ensures.steps in
    let empty : into_iter_items c.loop-row.row-iterator ≡ [] = no-more _ (sym i.left ∙ none.0) in
    let all : c.loop-row.yielded ≡ c.args.rows.items = sym (append-nil c.loop-row.yielded) ∙ rw empty at i.same in
    let rows = i.passes ∙ ap items_of all in
    let made = ap length rows in
    let one = length-map c.loop-row.passes.items (λ (p : HousePassOf). p.passes) in
    let two = length-map c.args.rows.items (λ v. v.items) in
    let some = c.requires.some in
    let less : 0 < length c.loop-row.passes.items = omega (arith, made, one, two, some) in
    let p = c.index_mut.result.now in
    let Long : List (Known Entry Origin) → Type 0 = λ r. length r ≡ c.args.closing.clocks in
    let whole = subst (AllByRecursion Long) (sym rows) c.requires.long in
    let here : p.passes ≡ get_or (rows_of c.loop-row.passes.items) 0 p.passes = ap (λ (q : HousePassOf). q.passes) c.index_mut.ensures.value ∙ sym (get_or-map (λ (q : HousePassOf). q.passes) c.loop-row.passes.items 0 p p.passes less) in
    let long = subst Long (sym here) (all-at Long (rows_of c.loop-row.passes.items) 0 p.passes (omega (arith, one, less)) whole) in
    omega (arith, long)

pub returns-clause-rows : goal.returns-clause-rows
returns-clause-rows g c =
    let i = c.loop-row.invariant in
    let none = c.in-None.ensures.steps in
    let empty : into_iter_items c.loop-row.row-iterator ≡ [] = no-more _ (sym i.left ∙ none.0) in
    let all : c.loop-row.yielded ≡ c.args.rows.items = sym (append-nil c.loop-row.yielded) ∙ rw empty at i.same in
    same-rows c.loop-row.passes.items c.index_mut.result.now c.give_closing.new.self c.index_mut.ensures.value c.give_closing.ensures.passes ∙ i.passes ∙ ap items_of all

pub returns-clause-room : goal.returns-clause-room
returns-clause-room g c =
    let i = c.loop-row.invariant in
    let none = c.in-None.ensures.steps in
    let empty : into_iter_items c.loop-row.row-iterator ≡ [] = no-more _ (sym i.left ∙ none.0) in
    let all : c.loop-row.yielded ≡ c.args.rows.items = sym (append-nil c.loop-row.yielded) ∙ rw empty at i.same in
    let made = ap length (i.passes ∙ ap items_of all) in
    let one = length-map c.loop-row.passes.items (λ (p : HousePassOf). p.passes) in
    let two = length-map c.args.rows.items (λ v. v.items) in
    let some = c.requires.some in
    let less : 0 < length c.loop-row.passes.items = omega (arith, made, one, two, some) in
    room-set c.loop-row.passes.items c.give_closing.new.self less ∙ c.give_closing.ensures.room ∙ c.requires.room
