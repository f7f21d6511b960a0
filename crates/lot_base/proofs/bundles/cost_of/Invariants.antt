use Rattle.std.proofs.Common.{◌≡◌, ◌≤◌, ◌*◌, ◌+◌, drop, length}
use Rattle.lot_base.specs.Goods.{cost}
use Rattle.lot_base.proofs.bundles.cost_of.Given as goal

abbrev pub invariant-loop-price : goal.invariant-loop-price
invariant-loop-price l = record {
  small : l.total ≤ 281474976710656 * length l.yielded;
  rest : l.total + cost (drop (length l.yielded) l.prices) (drop (length l.yielded) l.quantities) ≡ cost l.prices l.quantities;
}
