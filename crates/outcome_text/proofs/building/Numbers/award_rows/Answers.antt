use Rattle.outcome_text.proofs.Awards.{one-more-award, no-award}
use Rattle.outcome_text.proofs.building.Numbers.award_rows.Goals as goal

pub returns-in-None-clause-back : goal.returns-in-None-clause-back
returns-in-None-clause-back c = λ rows behind are e.
    absurd (no-award c.args.goods c.args.bidders c.loop-place._place c.args.self.now.rest.now c.loop-place.self.rest.now c.award_row.new.self.rest.now c.loop-place.rows.items rows behind c.loop-place.invariant c.loop-place-test.true c.in-None.ensures.back are e)

pub loop-place-preserved : goal.loop-place-preserved
loop-place-preserved c =
    one-more-award c.args.goods c.args.bidders c.loop-place._place c.args.self.now.rest.now c.loop-place.self.rest.now c.award_row.new.self.rest.now c.loop-place.rows.items c.push.new.self.items c.in-Some.row
    c.loop-place.invariant c.loop-place-test.true c.in-Some.ensures.fit c.in-Some.ensures.back c.in_ok-push-in-Some.ensures.items
