use Rattle.std.proofs.Common.{◌≡◌, ◌≤◌, ◌*◌, ◌^◌, drop}
use Rattle.lot_base.specs.Goods.{box_size}
use Rattle.lot_base.proofs.supply.box_product.Given as goal

abbrev pub invariant-loop-units : goal.invariant-loop-units
invariant-loop-units l = record {
  small : l.product ≤ 65536 ^ l.units-index;
  rest : l.product * box_size (drop l.units-index l.supply) ≡ box_size l.supply;
}
