use Rattle.std.proofs.Common.{◌∙◌, sym}
use Rattle.bidder_agent.proofs.Clocks.{next_step}
use Rattle.bidder_agent.proofs.knowing.next_open.Goals as goal

pub clocks-preserved : goal.clocks-preserved
clocks-preserved c = c.clocks.invariant ∙ next_step c.args.who c.clocks.clock c.args.known.now c.clocks-test.true (sym c.goes_to-goes.ensures.value ∙ c.if-goes.false)
