use Rattle.lot_base.specs.declared.limits.TheConstants.{MOST_UNITS}
use Rattle.valuation.proofs.Steady.{FewestTo}
use Rattle.valuation.proofs.steadiness.fewest_of_best.Given as goal

abbrev pub invariant-loop-place : goal.invariant-loop-place
invariant-loop-place l = FewestTo MOST_UNITS l.units l.worth l.best l.place l.fewest
