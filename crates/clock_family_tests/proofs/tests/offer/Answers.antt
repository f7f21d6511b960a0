use Rattle.std.proofs.Common.{rules, arith, ◌<◌, length, sym, ap, subst}
use Rattle.lot_base.specs.Demands.{IsDemand}
use Rattle.lot_base.specs.declared.auction_terms.Terms.{Terms}
use Rattle.clock_family.specs.Turns.{AreOf}
use Rattle.clock_family.specs.Houses.{HousePassOf}
use Rattle.clock_family.proofs.Rows.{all-at}
use Rattle.clock_family_tests.proofs.Readied.{ready-set}
use Rattle.clock_family_tests.proofs.tests.offer.Goals as goal

pub offer-requires-clause-clock : goal.offer-requires-clause-clock
offer-requires-clause-clock g c = let e = ap (λ (t : Terms). t.bidders) c.requires.terms_are in omega (arith, e)

pub offer-requires-clause-of_house : goal.offer-requires-clause-of_house
offer-requires-clause-of_house g c =
    let h = c.args.house.now in
    let Of : HousePassOf → Type 0 = λ p. AreOf h.terms h.digest h.desks p.passes in
    let below : c.args.line.pass < length c.args.passes.now.items = search rules in
    subst Of (sym c.index_mut.ensures.value) (all-at Of c.args.passes.now.items c.args.line.pass c.index_mut.result.now below c.requires.each)

pub offer-requires-clause-report : goal.offer-requires-clause-report
offer-requires-clause-report g c =
    let e = ap (λ (t : Terms). t.bidders) c.requires.terms_are in
    let Fits : Terms → Type 0 = λ t. IsDemand t.goods c.in-Ok.demand in
    (record { at_least = omega arith; at_most = omega (arith, e) }, subst Fits (sym c.requires.terms_are) c.in-Ok.ensures.fits)

pub returns-in-Ok : goal.returns-in-Ok
returns-in-Ok g c =
    let below : c.args.line.pass < length c.args.passes.now.items = search rules in
    ready-set c.args.terms.now c.args.house.now c.args.passes.now.items c.args.line.pass c.index_mut.result.now c.offer.new.pass c.requires c.index_mut.ensures.value below c.offer.ensures.of_house c.offer.ensures.still
