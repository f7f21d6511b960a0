use Rattle.std.proofs.Common.{◌∙◌, ◌+◌, ◌≡◌, sym, ap, arith, List, ℕ, subst, length}
use Rattle.std.proofs.lemmas.List.{take_at}
use Rattle.clock.specs.Reports.{ClockHistory}
use Rattle.clock.specs.Standing.{prices_of, phase_of}
use Rattle.trial.specs.Bidding.{bidders_of}
use Rattle.trial.specs.Following.{Followed}
use Rattle.trial.specs.Rounds.{AreFollowed}
use Rattle.trial.proofs.Turning.{fresh-new, whole-after, on-after, on-gone, yes-running}
use Rattle.trial.proofs.Leading.{led-running}
use Rattle.trial.proofs.rounds.run_clock.Goals as goal

pub loop-turn-init : goal.loop-turn-init
loop-turn-init c =
    let terms = c.args.terms.now in
    let u = bidders_of terms.goods c.args.valuations.now in
    record {
      on = record {
        terms_are = ap (λ k. k.terms) c.in_ok-clock.ensures;
        number_is = ap (λ k. k.number) c.in_ok-clock.ensures;
        fresh = fresh-new terms c.args.number u c.in_ok-clock.clock.history c.in_ok-clock.ensures;
        steps = omega arith;
      };
      columns = c.requires.columns;
      followed =
          (let A : List ℕ → Type 0 = λ p. AreFollowed terms u c.in_ok-clock.clock.history.number p c.in_ok-followers.followers.items in
          subst A c.look-opening.ensures.prices (c.in_ok-followers.ensures c.in_ok-clock.clock.history.number));
    }

pub tell_round-requires-clause-terms : goal.tell_round-requires-clause-terms
tell_round-requires-clause-terms c = c.loop-turn.invariant.on.terms_are

pub tell_round-requires-clause-fresh : goal.tell_round-requires-clause-fresh
tell_round-requires-clause-fresh c = c.loop-turn.invariant.on.fresh

pub tell_round-requires-clause-followed : goal.tell_round-requires-clause-followed
tell_round-requires-clause-followed c =
    let terms = c.args.terms.now in
    let u = bidders_of terms.goods c.args.valuations.now in
    let h = c.loop-turn.clock.history in
    let A : List Followed → Type 0 = AreFollowed terms u h.number (prices_of h) in
    subst A (sym c.deref.ensures.value) c.loop-turn.invariant.followed

pub lead-requires-clause-led : goal.lead-requires-clause-led
lead-requires-clause-led c =
    let u = bidders_of c.args.terms.now.goods c.args.valuations.now in
    let running = yes-running (phase_of c.tell_round.new.clock.history) (sym c.is_running.ensures.value ∙ c.if-not-is_running.false) in
    led-running u c.loop-turn.clock.history c.tell_round.new.clock.history c.look-before.result.prices c.loop-turn.invariant.on.fresh c.in_ok-tell_round.ensures.told c.in_ok-tell_round.ensures.turned running c.look-before.ensures.prices c.look-before.ensures.goods

pub lead-requires-clause-followed : goal.lead-requires-clause-followed
lead-requires-clause-followed c =
    let terms = c.args.terms.now in
    let u = bidders_of terms.goods c.args.valuations.now in
    let h = c.loop-turn.clock.history in
    let same : h.number ≡ c.tell_round.new.clock.history.number = ap (λ (k : ClockHistory). k.number) (sym c.in_ok-tell_round.ensures.told) in
    let A : List Followed → Type 0 = AreFollowed terms u c.tell_round.new.clock.history.number c.look-before.result.prices in
    let P : List ℕ → Type 0 = λ p. AreFollowed terms u c.tell_round.new.clock.history.number p c.loop-turn.followers.items in
    let N : ℕ → Type 0 = λ n. AreFollowed terms u n (prices_of h) c.loop-turn.followers.items in
    subst A (sym c.deref_mut.ensures.value) (subst P (sym c.look-before.ensures.prices) (subst N same c.loop-turn.invariant.followed))

pub returns-then-not-is_running : goal.returns-then-not-is_running
returns-then-not-is_running c =
    let terms = c.args.terms.now in
    let u = bidders_of terms.goods c.args.valuations.now in
    let on = c.loop-turn.invariant.on in
    record {
      clock = whole-after terms c.args.number u c.loop-turn.clock.history c.tell_round.new.clock.history on.terms_are on.number_is on.fresh c.in_ok-tell_round.ensures.told c.in_ok-tell_round.ensures.turned c.is_running.ensures.legal (sym c.is_running.ensures.value ∙ c.if-not-is_running.true);
      columns = c.loop-turn.invariant.columns;
    }

pub loop-turn-preserved : goal.loop-turn-preserved
loop-turn-preserved c =
    let terms = c.args.terms.now in
    let u = bidders_of terms.goods c.args.valuations.now in
    let told = c.tell_round.new.clock.history in
    let now = c.lead.new.clock.history in
    let A : List Followed → Type 0 = AreFollowed terms u now.number (prices_of now) in
    let followed = c.in_ok-lead.ensures.followed in
    let many : length c.lead.new.followers ≡ c.loop-turn.followers.len = followed.count ∙ sym c.loop-turn.invariant.followed.count ∙ ap length (sym c.deref_mut.ensures.value) ∙ c.deref_mut.ensures.len in
    let on = on-after terms c.args.number u c.loop-turn.turn c.loop-turn.clock.history told c.loop-turn.invariant.on c.in_ok-tell_round.ensures.told c.in_ok-tell_round.ensures.turned (sym c.is_running.ensures.value ∙ c.if-not-is_running.false) in
    record {
      on = on-gone terms c.args.number u (c.loop-turn.turn + 1) told now on c.in_ok-lead.ensures.gone;
      columns = c.lead.ensures.columns;
      followed = subst A (sym (take_at c.lead.new.followers _ c.loop-turn.followers.len many)) followed;
    }

pub returns : goal.returns
returns c = absurd (let few = c.steps-steps.ensures.few in let s = c.loop-turn.invariant.on.steps in omega (arith, c.loop-turn-test.false))
