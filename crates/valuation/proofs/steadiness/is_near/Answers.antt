use Rattle.std.proofs.Common.{◌-◌, ◌*◌, ap}
use Rattle.valuation.proofs.Steady.{near-off, stays-far}
use Rattle.valuation.proofs.steadiness.is_near.Goals as goal

pub returns : goal.returns
returns c = λ off n few.
    stays-far c.args.gap c.args.units c.args.least c.args.limit n
    (near-off c.args.units c.args.least c.args.gap (c.saturating_sub.result * c.args.limit) ((c.args.least - c.args.units) * c.args.limit) (ap (λ k. k * c.args.limit) c.saturating_sub.ensures) off) few
