use Rattle.std.proofs.Common.{rules, arith, ◌<◌, length, sym, ap, subst}
use Rattle.lot_base.specs.declared.auction_terms.Terms.{Terms}
use Rattle.clock_family.specs.Turns.{AreOf}
use Rattle.clock_family.specs.Houses.{HousePassOf}
use Rattle.clock_family.proofs.Rows.{all-at}
use Rattle.clock_family_tests.proofs.Readied.{ready-set}
use Rattle.clock_family_tests.proofs.tests.look.Goals as goal

pub look-requires-clause-clock : goal.look-requires-clause-clock
look-requires-clause-clock g c = let e = ap (λ (t : Terms). t.bidders) c.requires.terms_are in omega (arith, e)

pub look-requires-clause-of_house : goal.look-requires-clause-of_house
look-requires-clause-of_house g c =
    let h = c.args.house.now in
    let Of : HousePassOf → Type 0 = λ p. AreOf h.terms h.digest h.desks p.passes in
    let below : c.args.pass < length c.args.passes.now.items = search rules in
    subst Of (sym c.index_mut.ensures.value) (all-at Of c.args.passes.now.items c.args.pass c.index_mut.result.now below c.requires.each)

pub returns : goal.returns
returns g c =
    let below : c.args.pass < length c.args.passes.now.items = search rules in
    ready-set c.args.terms.now c.args.house.now c.args.passes.now.items c.args.pass c.index_mut.result.now c.look.new.pass c.requires c.index_mut.ensures.value below c.look.ensures.of_house c.look.ensures.still
