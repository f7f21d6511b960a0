use Rattle.std.proofs.Common.{arith}
use Rattle.valuation.proofs.Steady.{steady-next, steady-from}
use Rattle.valuation.proofs.steadiness.lasts_within.Goals as goal

pub loop-place-preserved : goal.loop-place-preserved
loop-place-preserved c = record {
  fewer = (let f = c.lasts_at-limit.ensures.fewer in let g = c.loop-place.invariant.fewer in omega (arith, f, g));
  steady = steady-next c.args.worth.now c.args.units.now c.args.best c.args.least c.args.first c.loop-place.place c.loop-place.limit c.lasts_at-limit.result c.lasts_at-limit.ensures.fewer c.loop-place.invariant.steady
      (λ n few. steady-from c.args.best c.args.least n _ _ (c.requires.bound c.loop-place.place (omega arith)) (c.lasts_at-limit.ensures.steady n few));
}
