use Rattle.std.proofs.Common.{arith, ◌≤◌, ◌^◌}
use Rattle.lot_base.proofs.Sums.{two_up}
use Rattle.lot_base.proofs.supply.Goods.set_count.Goals as goal

pub returns-clause-small : goal.returns-clause-small
returns-clause-small c = let few : c.count.result ≤ 6 = omega (arith, c.count.ensures, c.self.invariant.few_goods) in let h : 2 ^ c.count.result ≤ 64 = two_up c.count.result few in omega arith
