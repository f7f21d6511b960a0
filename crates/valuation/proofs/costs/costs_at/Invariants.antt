use Rattle.std.proofs.Common.{◌-◌, length}
use Rattle.valuation.proofs.Spread.{AreCostsFrom}
use Rattle.valuation.proofs.costs.costs_at.Given as goal

abbrev pub invariant-loop-step : goal.invariant-loop-step
invariant-loop-step l = AreCostsFrom l.goods l.prices (length l.goods - l.step) l.costs.items
