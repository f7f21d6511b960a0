use Rattle.std.proofs.Common.{◌∙◌, ◌≡◌, false, true, List, ℕ, sym, subst, arith}
use Rattle.trial.specs.Bidding.{bidders_of}
use Rattle.trial.proofs.Bidders.{known}
use Rattle.two_way.specs.Bidding.{AreBidders}
use Rattle.two_way.proofs.Bidders.{start-of, whole-on, stops-running}
use Rattle.two_way.proofs.Telling.{on-new, on-told}
use Rattle.two_way.proofs.floating.run_clock.Goals as goal

pub loop-turn-init : goal.loop-turn-init
loop-turn-init c =
    let terms = c.args.terms.now in
    let u = bidders_of terms.goods c.args.valuations.now in
    let A : List ℕ → Type 0 = λ p. AreBidders terms u p c.in_ok-bidders.bidders.items in
    record {
      on = on-new terms c.args.start.now c.args.number u c.in_ok-clock.clock c.requires.start c.in_ok-clock.ensures;
      bidders = subst A c.look.ensures.prices c.in_ok-bidders.ensures.bidders;
      said = λ runs place inside other stays. absurd (let f : false ≡ true = sym (c.in_ok-bidders.ensures.anew place) ∙ stays in cc);
      columns = c.requires.columns;
    }

pub run_round-requires-clause-terms : goal.run_round-requires-clause-terms
run_round-requires-clause-terms c = c.loop-turn.invariant.on.terms_are

pub run_round-requires-clause-start : goal.run_round-requires-clause-start
run_round-requires-clause-start c =
    start-of c.args.terms.now c.args.start.now c.loop-turn.clock c.requires.start c.loop-turn.invariant.on.terms_are c.loop-turn.invariant.on.start_is

pub run_round-requires-clause-fresh : goal.run_round-requires-clause-fresh
run_round-requires-clause-fresh c = c.loop-turn.invariant.on.fresh (sym c.is_running.ensures ∙ c.if-not-is_running.false)

pub run_round-requires-clause-said : goal.run_round-requires-clause-said
run_round-requires-clause-said c = c.loop-turn.invariant.said (sym c.is_running.ensures ∙ c.if-not-is_running.false)

pub returns-then-not-is_running-clause-clock : goal.returns-then-not-is_running-clause-clock
returns-then-not-is_running-clause-clock c =
    let terms = c.args.terms.now in
    let u = bidders_of terms.goods c.args.valuations.now in
    whole-on u terms c.args.start.now c.args.number c.loop-turn.turn c.loop-turn.clock (known terms c.args.valuations.now c.requires.valuations c.requires.substitutes) c.requires.start c.loop-turn.invariant.on
    (sym c.is_running.ensures ∙ c.if-not-is_running.true)

pub loop-turn-preserved : goal.loop-turn-preserved
loop-turn-preserved c =
    let terms = c.args.terms.now in
    record {
      on = on-told terms c.args.start.now c.args.number (bidders_of terms.goods c.args.valuations.now) c.loop-turn.turn c.loop-turn.clock c.run_round.new.clock c.loop-turn.invariant.on
          (sym c.is_running.ensures ∙ c.if-not-is_running.false) c.in_ok-run_round.ensures.told c.in_ok-run_round.ensures.turned;
      bidders = c.in_ok-run_round.ensures.bidders;
      said = c.in_ok-run_round.ensures.said;
      columns = c.run_round.ensures.columns;
    }

pub returns-clause-clock : goal.returns-clause-clock
returns-clause-clock c =
    let terms = c.args.terms.now in
    let u = bidders_of terms.goods c.args.valuations.now in
    whole-on u terms c.args.start.now c.args.number c.loop-turn.turn c.loop-turn.clock (known terms c.args.valuations.now c.requires.valuations c.requires.substitutes) c.requires.start c.loop-turn.invariant.on
    (stops-running u terms c.args.start.now c.args.number c.loop-turn.turn c.loop-turn.clock c.requires.start c.loop-turn.invariant.on (omega (arith, c.loop-turn-test.false)))
