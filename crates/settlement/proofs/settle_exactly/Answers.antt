use Rattle.clock.specs.Reports.{histories}
use Rattle.settlement.proofs.Firsts.{all-ended}
use Rattle.settlement.proofs.settle_exactly.Goals as goal

pub clock_rows-requires-clause-ended : goal.clock_rows-requires-clause-ended
clock_rows-requires-clause-ended c = all-ended (histories c.args.clocks.now) c.in_default.ensures.outcome.0 c.in_default.ensures.outcome.1
