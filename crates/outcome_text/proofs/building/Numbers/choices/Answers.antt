use Rattle.outcome_text.proofs.Awards.{one-more-choice, no-choice}
use Rattle.outcome_text.proofs.building.Numbers.choices.Goals as goal

pub returns-in-None-clause-back : goal.returns-in-None-clause-back
returns-in-None-clause-back c = λ clock js choices behind l are e.
    absurd (no-choice c.args.goods c.args.count c.loop-place._place c.args.self.now.rest.now c.loop-place.self.rest.now c.choice.new.self.rest.now c.loop-place.bundles.items clock js choices behind c.loop-place.invariant c.loop-place-test.true c.in-None.ensures.back l are e)

pub loop-place-preserved : goal.loop-place-preserved
loop-place-preserved c =
    one-more-choice c.args.goods c.args.count c.loop-place._place c.args.self.now.rest.now c.loop-place.self.rest.now c.choice.new.self.rest.now c.loop-place.bundles.items c.push.new.self.items c.in-Some.bundle
    c.loop-place.invariant c.loop-place-test.true c.in-Some.ensures.fit c.in-Some.ensures.back c.in_ok-push-in-Some.ensures.items
