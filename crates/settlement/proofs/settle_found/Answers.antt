use Rattle.clock.specs.Reports.{histories}
use Rattle.settlement.proofs.Firsts.{all-ended}
use Rattle.settlement.proofs.settle_found.Goals as goal

pub found_rows-requires-clause-ended : goal.found_rows-requires-clause-ended
found_rows-requires-clause-ended c = all-ended (histories c.args.clocks.now) c.in_default.ensures.outcome.0 c.in_default.ensures.outcome.1
