use Rattle.lot_base.specs.declared.limits.TheConstants.{MOST_UNITS}
use Rattle.valuation.proofs.Steady.{fewest-next}
use Rattle.valuation.proofs.steadiness.fewest_of_best.Goals as goal

pub loop-place-preserved : goal.loop-place-preserved
loop-place-preserved c =
    fewest-next MOST_UNITS c.args.units.now c.args.worth.now c.args.best c.loop-place.place c.loop-place.fewest c.units_if.result c.min-fewest.result c.loop-place.invariant c.units_if.ensures c.min-fewest.ensures
