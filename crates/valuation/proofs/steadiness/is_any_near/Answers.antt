use Rattle.std.proofs.Common.{arith}
use Rattle.valuation.proofs.Steady.{both-off, steady-next, steady-from}
use Rattle.valuation.proofs.steadiness.is_any_near.Goals as goal

pub loop-place-preserved : goal.loop-place-preserved
loop-place-preserved c = λ off.
    let o = both-off c.loop-place.near c.is_near-near.result off in
    steady-next c.args.worth.now c.args.units.now c.args.best c.args.least c.args.first c.loop-place.place c.args.limit c.args.limit (omega arith) (c.loop-place.invariant o.0)
    (λ n few. steady-from c.args.best c.args.least n _ _ (c.requires.bound c.loop-place.place (omega arith)) (c.is_near-near.ensures o.1 n few))
