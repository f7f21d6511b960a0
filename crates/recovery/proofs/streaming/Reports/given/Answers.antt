use Rattle.std.proofs.Common.{arith}
use Rattle.recovery.proofs.Giving.{few-places}
use Rattle.recovery.proofs.streaming.Reports.given.Goals as goal

pub overflow_cast-result : goal.overflow_cast-result
overflow_cast-result c = omega (arith, few-places c.self.inside.scan c.self.invariant.0, c.self.invariant.1)
