use Rattle.std.proofs.Common.{◌≡◌, ◌-◌, length}
use Rattle.lot_base.specs.Goods.{box_size}
use Rattle.rationale.proofs.Blocks.{AreCostsFrom}
use Rattle.rationale.proofs.placing.show_costs.Given as goal

abbrev pub invariant-loop-step : goal.invariant-loop-step
invariant-loop-step l = record {
  long : length l.costs ≡ box_size l.goods;
  costs_are : AreCostsFrom l.goods l.prices (length l.goods - l.step) l.costs;
}
