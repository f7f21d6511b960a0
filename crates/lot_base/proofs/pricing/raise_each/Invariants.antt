use Rattle.std.proofs.Common.{◌≡◌, take, drop, ◌++◌, ◌^◌, ◌-◌}
use Rattle.lot_base.specs.Goods.{raised, AllBelow}
use Rattle.lot_base.proofs.pricing.raise_each.Given as goal

abbrev pub invariant-loop-price : goal.invariant-loop-price
invariant-loop-price l = record {
  whole : take l.price-index l.prices ++ raised (drop l.price-index l.prices) l.rest ≡ raised l.fn.prices l.set;
  below : AllBelow (2 ^ 32 - 1) (drop l.price-index l.prices) l.rest;
}
