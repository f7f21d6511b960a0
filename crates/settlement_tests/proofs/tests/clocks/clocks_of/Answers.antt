use Rattle.std.proofs.Common.{ap, ◌∙◌}
use Rattle.clock.specs.Reports.{histories}
use Rattle.settlement.proofs.Histories.{histories-push}
use Rattle.settlement.proofs.Auction.{first-more}
use Rattle.settlement_tests.proofs.tests.clocks.clocks_of.Goals as goal

pub loop-number-preserved : goal.loop-number-preserved
loop-number-preserved g c =
    first-more c.args.terms.now c.loop-number.number (histories c.loop-number.clocks.items) (histories c.push.new.self.items) c.in_ok-clock_of.field-0.history c.loop-number.invariant c.in_ok-clock_of.ensures.terms c.in_ok-clock_of.ensures.number (ap histories c.in_ok-push.ensures.items ∙ histories-push c.loop-number.clocks.items c.in_ok-clock_of.field-0)
