use Rattle.std.proofs.Common.{◌≡◌, ◌≤◌, ◌*◌, ◌-◌, length}
use Rattle.demand_set.specs.Reading.{groups, bundles_of}
use Rattle.demand_set.proofs.PlaceOrder.{fault_by_place}
use Rattle.demand_set.proofs.box_order.first_fault.Given as goal

abbrev pub invariant-loop-place : goal.invariant-loop-place
invariant-loop-place l = record {
  left : length l.rest ≡ (l.place-end - l.place) * length l.supply;
  faults : fault_by_place l.supply l.place l.least (groups (l.place-end - l.place) (length l.supply) l.rest) ≡ fault_by_place l.supply 0 0 (bundles_of (length l.supply) l.quantities);
  reached : l.place ≤ l.least;
  few : l.least ≤ 2048;
}
