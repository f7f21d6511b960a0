use Rattle.std.proofs.Common.{◌≡◌, ◌≢◌, ◌<◌, ◌+◌, ◌∙◌, length, sym, ap, arith}
use Rattle.lot_base.specs.declared.auction_terms.Terms.{Terms}
use Rattle.trial.specs.Bidding.{bidders_of}
use Rattle.two_way.specs.Histories.{told}
use Rattle.two_way.specs.Standing.{prices_of, judgement_of}
use Rattle.two_way.specs.FloatHistories.{round_told_to}
use Rattle.two_way.proofs.Telling.{takes-next, told-with, told-without, grows-on, turned-told}
use Rattle.two_way.proofs.Saying.{says-true, bidder-here, said-here, report-now, fits-now}
use Rattle.two_way.proofs.floating.tell_round.Goals as goal

pub apply_again-requires-clause-take : goal.apply_again-requires-clause-take
apply_again-requires-clause-take c =
    let h = c.args.clock.now in
    let terms = c.args.terms.now in
    let u = bidders_of terms.goods c.args.valuations.now in
    let place = c.loop-place.place in
    let bidders = ap (λ (t : Terms). t.bidders) c.requires.terms in
    let few : place < length c.args.bidders.now = (let k = c.requires.bidders.count in omega (arith, c.loop-place-test.true, k)) in
    let other : place + 1 ≢ h.number = λ e. c.if-bidder-number.false (e ∙ sym c.number-number.ensures) in
    let said = said-here u h c.args.bidders.now c.index-bidders-place.result place c.requires.said few other c.index-bidders-place.is c.if-from.true in
    let says = says-true u h c.loop-place.clock place c.requires.fresh c.loop-place.invariant.told c.loop-place.invariant.grown (omega (arith, bidders, c.loop-place-test.true)) other said in
    ap (judgement_of c.loop-place.clock) says.0
    ∙ takes-next u h c.loop-place.clock place c.requires.fresh c.loop-place.invariant.told c.loop-place.invariant.grown (omega (arith, bidders, c.loop-place-test.true)) other

pub apply_again-requires-clause-said : goal.apply_again-requires-clause-said
apply_again-requires-clause-said c =
    let h = c.args.clock.now in
    let terms = c.args.terms.now in
    let u = bidders_of terms.goods c.args.valuations.now in
    let place = c.loop-place.place in
    let bidders = ap (λ (t : Terms). t.bidders) c.requires.terms in
    let few : place < length c.args.bidders.now = (let k = c.requires.bidders.count in omega (arith, c.loop-place-test.true, k)) in
    let other : place + 1 ≢ h.number = λ e. c.if-bidder-number.false (e ∙ sym c.number-number.ensures) in
    let said = said-here u h c.args.bidders.now c.index-bidders-place.result place c.requires.said few other c.index-bidders-place.is c.if-from.true in
    (says-true u h c.loop-place.clock place c.requires.fresh c.loop-place.invariant.told c.loop-place.invariant.grown (omega (arith, bidders, c.loop-place-test.true)) other said).1

pub apply-requires-clause-take : goal.apply-requires-clause-take
apply-requires-clause-take c =
    let h = c.args.clock.now in
    let terms = c.args.terms.now in
    let u = bidders_of terms.goods c.args.valuations.now in
    let place = c.loop-place.place in
    let bidders = ap (λ (t : Terms). t.bidders) c.requires.terms in
    let here = bidder-here terms u (prices_of h) c.args.bidders.now c.index-bidders-place.result place c.requires.bidders c.loop-place-test.true c.index-bidders-place.is in
    let same = report-now terms h u place c.look-round.result.round c.index-bidders-place.result c.in_ok-demand.demand c.requires.terms here c.look-round.ensures.round (c.in_ok-demand.ensures (u (place + 1)) (prices_of h) here.follows) in
    ap (judgement_of c.loop-place.clock) same
    ∙ takes-next u h c.loop-place.clock place c.requires.fresh c.loop-place.invariant.told c.loop-place.invariant.grown (omega (arith, bidders, c.loop-place-test.true)) (λ e. c.if-bidder-number.false (e ∙ sym c.number-number.ensures))

pub apply-requires-clause-fits : goal.apply-requires-clause-fits
apply-requires-clause-fits c =
    let h = c.args.clock.now in
    let terms = c.args.terms.now in
    let u = bidders_of terms.goods c.args.valuations.now in
    let place = c.loop-place.place in
    let here = bidder-here terms u (prices_of h) c.args.bidders.now c.index-bidders-place.result place c.requires.bidders c.loop-place-test.true c.index-bidders-place.is in
    fits-now terms h c.loop-place.clock u place place c.index-bidders-place.result c.in_ok-demand.demand c.requires.terms c.loop-place.invariant.told here (c.in_ok-demand.ensures (u (place + 1)) (prices_of h) here.follows)

pub loop-place-preserved-then-from : goal.loop-place-preserved-then-from
loop-place-preserved-then-from c =
    let h = c.args.clock.now in
    let terms = c.args.terms.now in
    let u = bidders_of terms.goods c.args.valuations.now in
    let place = c.loop-place.place in
    let bidders = ap (λ (t : Terms). t.bidders) c.requires.terms in
    let few : place < length c.args.bidders.now = (let k = c.requires.bidders.count in omega (arith, c.loop-place-test.true, k)) in
    let other : place + 1 ≢ h.number = λ e. c.if-bidder-number.false (e ∙ sym c.number-number.ensures) in
    let said = said-here u h c.args.bidders.now c.index-bidders-place.result place c.requires.said few other c.index-bidders-place.is c.if-from.true in
    let says = says-true u h c.loop-place.clock place c.requires.fresh c.loop-place.invariant.told c.loop-place.invariant.grown (omega (arith, bidders, c.loop-place-test.true)) other said in
    let next = c.in_ok-apply_again.ensures.ok ∙ ap (told c.loop-place.clock) says.0 in
    record {
      told = next ∙ told-with u h c.loop-place.clock place c.loop-place.invariant.told other;
      grown = grows-on h c.loop-place.clock c.apply_again.new.self u place _ c.requires.start c.loop-place.invariant.told next c.loop-place.invariant.grown;
    }

pub loop-place-preserved : goal.loop-place-preserved
loop-place-preserved c =
    let h = c.args.clock.now in
    let terms = c.args.terms.now in
    let u = bidders_of terms.goods c.args.valuations.now in
    let place = c.loop-place.place in
    let here = bidder-here terms u (prices_of h) c.args.bidders.now c.index-bidders-place.result place c.requires.bidders c.loop-place-test.true c.index-bidders-place.is in
    let same = report-now terms h u place c.look-round.result.round c.index-bidders-place.result c.in_ok-demand.demand c.requires.terms here c.look-round.ensures.round (c.in_ok-demand.ensures (u (place + 1)) (prices_of h) here.follows) in
    let next = c.in-Ok.ensures.ok ∙ ap (told c.loop-place.clock) same in
    record {
      told = next ∙ told-with u h c.loop-place.clock place c.loop-place.invariant.told (λ e. c.if-bidder-number.false (e ∙ sym c.number-number.ensures));
      grown = grows-on h c.loop-place.clock c.apply.new.self u place _ c.requires.start c.loop-place.invariant.told next c.loop-place.invariant.grown;
    }

pub loop-place-preserved-then-bidder-number : goal.loop-place-preserved-then-bidder-number
loop-place-preserved-then-bidder-number c =
    let h = c.args.clock.now in
    let u = bidders_of c.args.terms.now.goods c.args.valuations.now in
    record {
      told = told-without u h c.loop-place.clock c.loop-place.place c.loop-place.invariant.told (c.if-bidder-number.true ∙ c.number-number.ensures);
      grown = c.loop-place.invariant.grown;
    }

pub returns-clause-turned : goal.returns-clause-turned
returns-clause-turned c =
    let h = c.args.clock.now in
    let u = bidders_of c.args.terms.now.goods c.args.valuations.now in
    let bidders = ap (λ (t : Terms). t.bidders) c.requires.terms in
    let all : c.loop-place.place ≡ h.terms.bidders = omega (arith, bidders, c.loop-place-test.false, c.loop-place.auto.place-end) in
    turned-told u h c.loop-place.clock c.requires.start c.requires.fresh (c.loop-place.invariant.told ∙ ap (λ n. round_told_to u n h) all) c.loop-place.invariant.grown
