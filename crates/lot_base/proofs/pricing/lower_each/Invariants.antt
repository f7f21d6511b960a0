use Rattle.std.proofs.Common.{◌≡◌, take, drop, ◌++◌}
use Rattle.lot_base.specs.Goods.{lowered, AllPriced}
use Rattle.lot_base.proofs.pricing.lower_each.Given as goal

abbrev pub invariant-loop-price : goal.invariant-loop-price
invariant-loop-price l = record {
  whole : take l.price-index l.prices ++ lowered (drop l.price-index l.prices) l.rest ≡ lowered l.fn.prices l.set;
  priced : AllPriced (drop l.price-index l.prices) l.rest;
}
