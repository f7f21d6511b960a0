use Rattle.std.proofs.Common.{◌≡◌, ◌∙◌, ap, sym, rules, Some, List, slice_index_or}
use Rattle.std.specs.Prelude.{option_map}
use Rattle.house_io.specs.ShelvedFiles.{ShelvedFile, shelved_file, with_closed}
use Rattle.house_io.proofs.Shelving.{HasNo, IsPlace, found-at, found-none, found-more, others-more, others-removed, other-place, place-named}
use Rattle.house_io.proofs.memory.shelved.make.Goals as goal

pub returns-in-Some-clause-placed : goal.returns-in-Some-clause-placed
returns-in-Some-clause-placed g c =
    let is : IsPlace c.args.files.now.reserved.items c.args.name.now c.in-Some.place = rw (← c.deref.ensures.value) c.in-Some.ensures in
    rw (found-at is c.remove-entry.ensures.value) (search rules)

pub returns-in-Some-clause-kept : goal.returns-in-Some-clause-kept
returns-in-Some-clause-kept g c =
    let is : IsPlace c.args.files.now.reserved.items c.args.name.now c.in-Some.place = rw (← c.deref.ensures.value) c.in-Some.ensures in
    let named : c.close.new.self.name ≡ c.args.name.now = ap (λ (f : ShelvedFile). f.name) c.close.ensures ∙ place-named is c.remove-entry.ensures.value in
    ap (λ (fs : List ShelvedFile). shelved_file fs c.args.name.now) c.push_reserved.ensures.items
    ∙ found-more c.args.files.now.there.items c.close.new.self c.args.name.now named c.requires.absent
    ∙ ap Some c.close.ensures
    ∙ sym (ap (option_map (with_closed (g.D.MemoryDisk.stands c.args.disk))) (found-at is c.remove-entry.ensures.value))

pub returns-in-Some-clause-others : goal.returns-in-Some-clause-others
returns-in-Some-clause-others g c other ne =
    let is : IsPlace c.args.files.now.reserved.items c.args.name.now c.in-Some.place = rw (← c.deref.ensures.value) c.in-Some.ensures in
    let named : c.close.new.self.name ≡ c.args.name.now = ap (λ (f : ShelvedFile). f.name) c.close.ensures ∙ place-named is c.remove-entry.ensures.value in
    ap (λ (fs : List ShelvedFile). shelved_file fs other) c.push_reserved.ensures.items
    ∙ others-more c.args.files.now.there.items c.close.new.self c.args.name.now named other ne

pub returns-in-Some-clause-reserved : goal.returns-in-Some-clause-reserved
returns-in-Some-clause-reserved g c other ne =
    let is : IsPlace c.args.files.now.reserved.items c.args.name.now c.in-Some.place = rw (← c.deref.ensures.value) c.in-Some.ensures in
    ap (λ (fs : List ShelvedFile). shelved_file fs other) c.remove-entry.ensures.items
    ∙ others-removed c.args.files.now.reserved.items c.in-Some.place other c.remove-entry.result is.inside (other-place c.remove-entry.result is other ne)

pub returns-in-None-clause-placed : goal.returns-in-None-clause-placed
returns-in-None-clause-placed g c =
    let none : HasNo c.args.files.now.reserved.items c.args.name.now = rw (← c.deref.ensures.value) c.in-None.ensures in
    rw (found-none _ _ none) (search rules)

pub returns-in-None-clause-kept : goal.returns-in-None-clause-kept
returns-in-None-clause-kept g c =
    let none : HasNo c.args.files.now.reserved.items c.args.name.now = rw (← c.deref.ensures.value) c.in-None.ensures in
    rw (c.requires.absent, found-none _ _ none) (search rules)
