use Rattle.std.proofs.Common.{◌≡◌, ◌∙◌, ap, sym, rules, Some, None, List, Bool, true, false, refl, IsTrue, true≢false}
use Rattle.std.specs.Prelude.{option_map, IsSome}
use Rattle.house_io.specs.ShelvedFiles.{ShelvedFile, shelved_file, with_closed, keeper, place_for}
use Rattle.house_io.proofs.Shelving.{HasNo, IsPlace, found-at, found-none, found-put, others-put, keeper-there, place-absent}
use Rattle.house_io.proofs.memory.shelved.keep.Goals as goal

pub returns-in-Some-clause-placed : goal.returns-in-Some-clause-placed
returns-in-Some-clause-placed g c =
    let is : IsPlace c.args.files.now.there.items c.args.name.now c.in-Some.place = rw (← c.deref.ensures.value) c.in-Some.ensures in
    rw (keeper-there true c.args.files.now.there.items c.args.files.now.reserved.items c.args.name.now c.index_mut.result.now (found-at is c.index_mut.ensures.value)) (λ _ _. refl, λ _. refl)

pub returns-in-Some-clause-kept : goal.returns-in-Some-clause-kept
returns-in-Some-clause-kept g c =
    let is : IsPlace c.args.files.now.there.items c.args.name.now c.in-Some.place = rw (← c.deref.ensures.value) c.in-Some.ensures in
    let name : c.close.new.self.name ≡ c.index_mut.result.now.name = search rules in
    found-put c.close.new.self is name c.index_mut.ensures.value
    ∙ ap Some c.close.ensures
    ∙ sym (ap (option_map (with_closed (g.D.MemoryDisk.stands c.args.disk))) (keeper-there c.args.is_claimed c.args.files.now.there.items c.args.files.now.reserved.items c.args.name.now c.index_mut.result.now (found-at is c.index_mut.ensures.value)))

pub returns-in-Some-clause-others : goal.returns-in-Some-clause-others
returns-in-Some-clause-others g c =
    let is : IsPlace c.args.files.now.there.items c.args.name.now c.in-Some.place = rw (← c.deref.ensures.value) c.in-Some.ensures in
    others-put c.close.new.self is (search rules) c.index_mut.ensures.value

pub returns-then-not-is_claimed-clause-kept : goal.returns-then-not-is_claimed-clause-kept
returns-then-not-is_claimed-clause-kept g c =
    let none : HasNo c.args.files.now.there.items c.args.name.now = rw (← c.deref.ensures.value) c.in-None.ensures in
    let unclaimed : c.args.is_claimed ≡ false = search rules in
    rw (unclaimed, found-none _ _ none) refl

pub make-requires-clause-absent : goal.make-requires-clause-absent
make-requires-clause-absent g c =
    let none : HasNo c.args.files.now.there.items c.args.name.now = rw (← c.deref.ensures.value) c.in-None.ensures in
    found-none _ _ none

pub returns-else-not-is_claimed-clause-placed : goal.returns-else-not-is_claimed-clause-placed
returns-else-not-is_claimed-clause-placed g c =
    let none : HasNo c.args.files.now.there.items c.args.name.now = rw (← c.deref.ensures.value) c.in-None.ensures in
    let claimed : c.args.is_claimed ≡ true = search rules in
    rw (place-absent c.args.files.now.there.items c.args.files.now.reserved.items c.args.name.now (found-none _ _ none)) (λ made _. c.make.ensures.placed.0 made, λ given. c.make.ensures.placed.1 (given claimed))

pub returns-else-not-is_claimed-clause-kept : goal.returns-else-not-is_claimed-clause-kept
returns-else-not-is_claimed-clause-kept g c =
    let none : HasNo c.args.files.now.there.items c.args.name.now = rw (← c.deref.ensures.value) c.in-None.ensures in
    let claimed : c.args.is_claimed ≡ true = search rules in
    rw (claimed, place-absent c.args.files.now.there.items c.args.files.now.reserved.items c.args.name.now (found-none _ _ none)) c.make.ensures.kept
