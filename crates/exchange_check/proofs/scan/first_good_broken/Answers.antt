use Rattle.std.proofs.Common.{below_more}
use Rattle.exchange_check.proofs.scan.first_good_broken.Goals as goal

pub loop-good-preserved : goal.loop-good-preserved
loop-good-preserved c = below_more _ _ c.loop-good.invariant (c.is_exchanged.ensures.0 c.if-not-is_exchanged.false)
