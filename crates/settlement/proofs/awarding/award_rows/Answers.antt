use Rattle.clock.specs.Reports.{histories}
use Rattle.settlement.proofs.Histories.{length-histories, at-histories}
use Rattle.settlement.proofs.Awards.{awards-more}
use Rattle.settlement.proofs.awarding.award_rows.Goals as goal

pub loop-place-preserved : goal.loop-place-preserved
loop-place-preserved c =
    awards-more c.args.all.now.history c.index-others-place.result.history (histories c.args.others.now) c.args.awards.now c.loop-place.rows.items c.push.new.self.items c.award_row-row.result c.get.result c.loop-place.place
    (rw length-histories c.loop-place-test.true) (at-histories c.args.others.now c.loop-place.place c.index-others-place.result c.index-others-place.is) c.get.ensures c.award_row-row.ensures.row c.award_row-row.ensures.award c.in_ok-push.ensures.items c.loop-place.invariant
