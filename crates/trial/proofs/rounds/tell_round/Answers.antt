use Rattle.std.proofs.Common.{◌≡◌, ◌≤◌, ◌+◌, ◌∙◌, sym, ap, arith, subst, List, ℕ}
use Rattle.lot_base.specs.Demands.{IsDemand}
use Rattle.lot_base.proofs.Ascending.{IsDemand-demand}
use Rattle.clock.specs.Reports.{ClockHistory, with_report}
use Rattle.clock.specs.Standing.{steps_of, prices_of}
use Rattle.clock.specs.Judging.{judgement_of}
use Rattle.clock.proofs.Growing.{grows}
use Rattle.trial.specs.Bidding.{bidders_of}
use Rattle.trial.specs.Rounds.{told_up_to}
use Rattle.trial.proofs.Leading.{followed-here, report-here}
use Rattle.trial.proofs.Telling.{takes-next, told-with, told-without}
use Rattle.trial.proofs.Turning.{turned}
use Rattle.trial.proofs.rounds.tell_round.Goals as goal

pub apply-requires-clause-take : goal.apply-requires-clause-take
apply-requires-clause-take c =
    let old = c.args.clock.now.history in
    let terms = c.args.terms.now in
    let u = bidders_of terms.goods c.args.valuations.now in
    let here = followed-here terms u old.number (prices_of old) c.args.followers.now c.index-followers-place.result c.loop-place.place c.requires.followed c.loop-place-test.true (λ e. c.if-bidder-number.false (e ∙ sym c.number-number.ensures.value)) c.index-followers-place.is in
    let same = report-here terms old u c.loop-place.place c.look-round.result.round c.index-followers-place.result c.in_ok-demand.demand c.requires.terms here c.look-round.ensures.round (c.in_ok-demand.ensures (u (c.loop-place.place + 1)) (prices_of old) here.follows) in
    let bidders = ap (λ t. t.bidders) c.requires.terms in
    ap (judgement_of c.loop-place.clock.history) same
    ∙ takes-next u old c.loop-place.clock.history c.loop-place.place c.requires.fresh c.loop-place.invariant.told c.loop-place.invariant.grown (omega (arith, bidders, c.loop-place-test.true)) (λ e. c.if-bidder-number.false (e ∙ sym c.number-number.ensures.value))

pub apply-requires-clause-fits : goal.apply-requires-clause-fits
apply-requires-clause-fits c =
    let old = c.args.clock.now.history in
    let terms = c.args.terms.now in
    let u = bidders_of terms.goods c.args.valuations.now in
    let here = followed-here terms u old.number (prices_of old) c.args.followers.now c.index-followers-place.result c.loop-place.place c.requires.followed c.loop-place-test.true (λ e. c.if-bidder-number.false (e ∙ sym c.number-number.ensures.value)) c.index-followers-place.is in
    let is = c.in_ok-demand.ensures (u (c.loop-place.place + 1)) (prices_of old) here.follows in
    let goods : c.index-followers-place.result.supply ≡ c.loop-place.clock.history.terms.goods = here.over ∙ ap (λ t. t.goods) (sym c.requires.terms) ∙ ap (λ (k : ClockHistory). k.terms.goods) (sym c.loop-place.invariant.told) in
    let G : List ℕ → Type 0 = λ g. IsDemand g c.in_ok-demand.demand in
    let D : List (List ℕ) → Type 0 = IsDemand c.index-followers-place.result.supply in
    subst G goods (subst D (sym is) (IsDemand-demand c.index-followers-place.result.supply (u (c.loop-place.place + 1)) (prices_of old)))

pub loop-place-preserved : goal.loop-place-preserved
loop-place-preserved c =
    let old = c.args.clock.now.history in
    let terms = c.args.terms.now in
    let u = bidders_of terms.goods c.args.valuations.now in
    let number = λ (e : c.loop-place.place + 1 ≡ old.number). c.if-bidder-number.false (e ∙ sym c.number-number.ensures.value) in
    let here = followed-here terms u old.number (prices_of old) c.args.followers.now c.index-followers-place.result c.loop-place.place c.requires.followed c.loop-place-test.true number c.index-followers-place.is in
    let same = report-here terms old u c.loop-place.place c.look-round.result.round c.index-followers-place.result c.in_ok-demand.demand c.requires.terms here c.look-round.ensures.round (c.in_ok-demand.ensures (u (c.loop-place.place + 1)) (prices_of old) here.follows) in
    let bidders = ap (λ t. t.bidders) c.requires.terms in
    let take = takes-next u old c.loop-place.clock.history c.loop-place.place c.requires.fresh c.loop-place.invariant.told c.loop-place.invariant.grown (omega (arith, bidders, c.loop-place-test.true)) number in
    let next = c.in-Ok.ensures.ok ∙ ap (with_report c.loop-place.clock.history) same in
    let G : ClockHistory → Type 0 = λ h. steps_of c.loop-place.clock.history ≤ steps_of h in
    let grown = subst G (sym next) (grows c.loop-place.clock.history _ take).steps in
    record {
      told = next ∙ told-with u old c.loop-place.clock.history c.loop-place.place c.loop-place.invariant.told number;
      grown = omega (arith, c.loop-place.invariant.grown, grown);
    }

pub loop-place-preserved-then-bidder-number : goal.loop-place-preserved-then-bidder-number
loop-place-preserved-then-bidder-number c =
    let old = c.args.clock.now.history in
    let u = bidders_of c.args.terms.now.goods c.args.valuations.now in
    record {
      told = told-without u old c.loop-place.clock.history c.loop-place.place c.loop-place.invariant.told (c.if-bidder-number.true ∙ c.number-number.ensures.value);
      grown = c.loop-place.invariant.grown;
    }

pub returns-clause-turned : goal.returns-clause-turned
returns-clause-turned c =
    let old = c.args.clock.now.history in
    let u = bidders_of c.args.terms.now.goods c.args.valuations.now in
    let bidders = ap (λ t. t.bidders) c.requires.terms in
    let all : c.loop-place.place ≡ old.terms.bidders = omega (arith, bidders, c.loop-place-test.false, c.loop-place.auto.place-end) in
    turned u old c.loop-place.clock.history c.requires.fresh (c.loop-place.invariant.told ∙ ap (λ n. told_up_to u n old) all) c.loop-place.invariant.grown
