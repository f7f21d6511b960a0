use Rattle.two_way.proofs.Paying.{awards-more}
use Rattle.two_way.proofs.awarding.award_rows.Goals as goal

pub loop-place-preserved : goal.loop-place-preserved
loop-place-preserved c =
    awards-more c.args.all.now c.index-others-place.result c.args.others.now c.args.awards.now c.loop-place.rows.items c.push.new.self.items c.award_row-row.result c.get.result c.loop-place.place
    c.loop-place-test.true c.index-others-place.is c.get.ensures c.award_row-row.ensures.row c.award_row-row.ensures.award c.in_ok-push.ensures.items c.loop-place.invariant
