use Rattle.std.proofs.Common.{◌≡◌, ◌≤◌, ◌*◌, ◌+◌, drop}
use Rattle.lot_base.specs.Goods.{quantity_in}
use Rattle.lot_base.proofs.supply.sum_in.Given as goal

abbrev pub invariant-loop-number : goal.invariant-loop-number
invariant-loop-number l = record {
  small : l.total ≤ 65535 * l.number-index;
  rest : l.total + quantity_in (drop l.number-index l.numbers) l.rest ≡ quantity_in l.numbers l.set;
}
