use Rattle.std.proofs.Common.{arith}
use Rattle.lot_base.proofs.Index.{box_size-above_0}
use Rattle.valuation.proofs.Greatest.{greatest-is}
use Rattle.valuation.proofs.Carrying.{steady_is}
use Rattle.valuation.proofs.surpluses.steady_for.Goals as goal

pub lasts-requires-clause-bound : goal.lasts-requires-clause-bound
lasts-requires-clause-bound c =
    let some = box_size-above_0 c.args.goods.now in
    (greatest-is c.args.worth.now c.args.best (omega (arith, some, c.requires.whole)) c.requires.empty c.requires.best).bound

pub returns-clause-steady : goal.returns-clause-steady
returns-clause-steady c = λ u p goods carries n few.
    let some = box_size-above_0 c.args.goods.now in
    steady_is c.args.goods.now c.args.worth.now c.args.units.now u p c.args.best c.fewest_of_best-least.result c.lasts.result n c.args.set.0 c.requires.whole c.requires.column goods carries
    (greatest-is c.args.worth.now c.args.best (omega (arith, some, c.requires.whole)) c.requires.empty c.requires.best) c.lasts.ensures (let e = c.from.ensures in omega (arith, e, few))
