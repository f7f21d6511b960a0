use Rattle.std.proofs.Common.{◌≡◌, ◌≤◌, ◌*◌, ◌+◌, drop}
use Rattle.lot_base.specs.Goods.{box_size}
use Rattle.demand_set.specs.Places.{place_in}
use Rattle.demand_set.proofs.PlaceOrder.{place_from}
use Rattle.demand_set.proofs.box_order.place_within.Given as goal

abbrev pub invariant-loop-good : goal.invariant-loop-good
invariant-loop-good l = record {
  small : (l.place + 1) * box_size (drop l.good l.supply) ≤ box_size l.supply;
  so_far : place_from l.place (drop l.good l.supply) (drop l.good l.quantities) ≡ place_in l.supply l.quantities;
}
