use Rattle.std.proofs.Common.{◌≡◌, ◌∙◌, ◌<◌, List, length, get_or, None, sym, ap, subst, arith}
use Rattle.std.specs.Prelude.{slice_set}
use Rattle.recovery.specs.Journaled.{owner_of}
use Rattle.clock_book.specs.declared.entries.Entry.{Entry}
use Rattle.clock_book.specs.declared.origins.Origin.{Origin}
use Rattle.turn_desk.specs.Passes.{Known}
use Rattle.clock_family.specs.Turns.{IsOf, AreOf, LooksAt}
use Rattle.clock_family.specs.Houses.{HouseOf, HousePassOf, room_of, still}
use Rattle.clock_family.proofs.Passing.{set-of, still-set, looks-at as at-place}
use Rattle.clock_family.proofs.houses.House.look.Goals as goal

pub look_on-requires-clause-of_house : goal.look_on-requires-clause-of_house
look_on-requires-clause-of_house g c =
    let P : Known Entry Origin → Type 0 = λ p. IsOf (owner_of c.args.self.now.terms c.args.clock c.args.self.now.digest) p in
    let below : c.args.clock < length c.args.pass.now.passes = omega (arith, c.requires.of_house.count, c.requires.of_house.clocks, c.requires.clock) in
    let same = c.index_mut.ensures.value ∙ ap (λ (p : HousePassOf). get_or p.passes c.args.clock c.index_mut.result.now) c.pass.view_is in
    let Of : HouseOf g.row.D.Denot → Type 0 = λ h. IsOf (owner_of h.terms c.args.clock h.digest) c.index_mut.result.now in
    subst Of (sym c.self.view_is) (subst P (sym same) (c.requires.of_house.book c.args.clock c.index_mut.result.now below))

pub returns-clause-of_house : goal.returns-clause-of_house
returns-clause-of_house g c =
    let below : c.args.clock < length c.args.pass.now.passes = omega (arith, c.requires.of_house.count, c.requires.of_house.clocks, c.requires.clock) in
    let old = c.index_mut.result.now in
    let same = c.index_mut.ensures.value ∙ ap (λ (p : HousePassOf). get_or p.passes c.args.clock old) c.pass.view_is in
    let new = c.look_on.new.pass in
    let gives = c.look_on.ensures.looks.same in
    let desk : new.desk ≡ old.desk = ap (λ (p : Known Entry Origin). p.desk) gives in
    let rest : new.turn ≡ None = ap (λ (p : Known Entry Origin). p.turn) gives ∙ ap (λ (p : Known Entry Origin). p.turn) same ∙ c.requires.of_house.rest c.args.clock old below in
    let With : HouseOf g.row.D.Denot → Type 0 = λ h. IsOf (owner_of h.terms c.args.clock h.digest) new in
    let of = subst With c.self.view_is c.look_on.ensures.of_house in
    let Of : List (Known Entry Origin) → Type 0 = λ ps. AreOf c.args.self.now.terms c.args.self.now.digest c.args.self.now.desks (slice_set ps c.args.clock new) in
    subst (λ (p : HousePassOf). Of p.passes) (sym c.pass.view_is) (set-of c.args.self.now.terms c.args.self.now.digest c.args.self.now.desks c.args.pass.now.passes c.args.clock new c.requires.of_house below
    (λ d. desk ∙ ap (λ (p : Known Entry Origin). p.desk) same ∙ c.requires.of_house.desk c.args.clock d old below)
    rest of)

pub returns-clause-looks : goal.returns-clause-looks
returns-clause-looks g c =
    let below : c.args.clock < length c.args.pass.now.passes = omega (arith, c.requires.of_house.count, c.requires.of_house.clocks, c.requires.clock) in
    let same = c.index_mut.ensures.value ∙ ap (λ (p : HousePassOf). get_or p.passes c.args.clock c.index_mut.result.now) c.pass.view_is in
    let At : List (Known Entry Origin) → Type 0 = λ ps. LooksAt c.args.clock c.look_on.result c.args.pass.now.passes (slice_set ps c.args.clock c.look_on.new.pass) in
    subst (λ (p : HousePassOf). At p.passes) (sym c.pass.view_is) (at-place c.args.pass.now.passes c.args.clock c.index_mut.result.now c.look_on.new.pass below same c.look_on.ensures.looks)

pub returns-clause-still : goal.returns-clause-still
returns-clause-still g c =
    let gives = ap still c.look_on.ensures.looks.same in
    still-set c.pass.inside.passes.items c.args.clock c.index_mut.result.now c.look_on.new.pass c.args.pass.now (room_of c.pass.inside.closing) c.index_mut.ensures.value gives c.pass.view_is
