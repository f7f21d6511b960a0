use Rattle.std.proofs.Common.{◌≡◌, ◌<◌, ◌∙◌, length, ap, sym, subst}
use Rattle.recovery.specs.Journaled.{Owner, owner_of}
use Rattle.clock_book.specs.declared.entries.Entry.{Entry}
use Rattle.clock_book.specs.declared.origins.Origin.{Origin}
use Rattle.clock_book.specs.Past.{owner_in}
use Rattle.turn_desk.specs.Histories.{StartsWith, StartsWithAll}
use Rattle.turn_desk.specs.Passes.{Known, at_turn, after_giving}
use Rattle.clock_family.proofs.Offering.{same-some}
use Rattle.clock_family.proofs.Turning.{looked}
use Rattle.clock_family.proofs.Glancing.{same-owner, looked-owner, looks-behind, owner-goods}
use Rattle.clock_family.proofs.turns.look_on.Goals as goal

pub returns-in-Some-clause-of_house : goal.returns-in-Some-clause-of_house
returns-in-Some-clause-of_house g c = looked-owner (owner_of c.args.terms.now c.args.clock c.args.digest.now) c.in-Some.look c.args.pass.now c.glance_on.new.pass c.in-Some.ensures.looks c.requires.of_house

pub returns-in-Some-clause-goods : goal.returns-in-Some-clause-goods
returns-in-Some-clause-goods g c =
    let owner = owner_of c.args.terms.now c.args.clock c.args.digest.now in
    let of = looked-owner owner c.in-Some.look c.args.pass.now c.glance_on.new.pass c.in-Some.ensures.looks c.requires.of_house in
    (owner-goods owner c.glance_on.new.pass c.in-Some.look of c.in-Some.ensures.shown).0

pub returns-in-Some-clause-halted : goal.returns-in-Some-clause-halted
returns-in-Some-clause-halted g c =
    let owner = owner_of c.args.terms.now c.args.clock c.args.digest.now in
    let of = looked-owner owner c.in-Some.look c.args.pass.now c.glance_on.new.pass c.in-Some.ensures.looks c.requires.of_house in
    (owner-goods owner c.glance_on.new.pass c.in-Some.look of c.in-Some.ensures.shown).1

-- a look in a turn, which the glance went before
pub returns-clause-looks : goal.returns-clause-looks
returns-clause-looks g c =
    let on = c.glance_on.ensures.sees c.in_default.is in
    let mid = c.glance_on.new.pass in
    let book = c.take-book.result in
    let before = book.state.history in
    looks-behind c.look-look.result c.args.pass.now mid c.give.new.pass on (record {
      origin = book.origin;
      origin_is = ap (λ (p : Known Entry Origin). p.origin) (sym c.pass.view_is) ∙ c.take-book.ensures.origin;
      before = before;
      goes_on = subst (λ (p : Known Entry Origin). StartsWith before p.seen) c.pass.view_is c.take-book.ensures.goes_on.0;
      also = subst (λ (p : Known Entry Origin). StartsWithAll before p.also) c.pass.view_is c.take-book.ensures.goes_on.1;
      shows = c.look-look.ensures.shows;
      same = looked mid c.give.new.pass before (ap (λ (p : Known Entry Origin). p.turn) on.sees ∙ c.requires.rests)
          (c.give.ensures.given ∙ ap (λ (p : Known Entry Origin). after_giving p before) (c.take-book.ensures.turn ∙ ap (λ (p : Known Entry Origin). at_turn p before) c.pass.view_is));
    })

pub returns-clause-of_house : goal.returns-clause-of_house
returns-clause-of_house g c =
    let of = same-owner (owner_of c.args.terms.now c.args.clock c.args.digest.now) c.args.pass.now c.glance_on.new.pass (c.glance_on.ensures.sees c.in_default.is) c.requires.of_house in
    let origin : Known Entry Origin → _ = λ p. p.origin in
    (of.0, ap origin c.give.ensures.given ∙ ap origin c.take-book.ensures.turn ∙ ap origin c.pass.view_is ∙ of.1, of.2)

pub returns-clause-halted : goal.returns-clause-halted
returns-clause-halted g c = λ good e.
    let of = same-owner (owner_of c.args.terms.now c.args.clock c.args.digest.now) c.args.pass.now c.glance_on.new.pass (c.glance_on.ensures.sees c.in_default.is) c.requires.of_house in
    let here = same-some c.take-book.result.origin of.0 (sym c.take-book.ensures.origin ∙ (ap (λ (p : Known Entry Origin). p.origin) c.pass.view_is ∙ of.1)) in
    let owner : owner_in c.take-book.result.origin ≡ owner_in of.0 = ap owner_in here in
    subst (λ (o : Owner). good < length o.terms.goods) (owner ∙ of.2) (c.look-look.ensures.halted good e)
