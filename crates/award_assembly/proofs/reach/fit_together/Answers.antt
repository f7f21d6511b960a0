use Rattle.std.proofs.Common.{sym, arith}
use Rattle.award_assembly.proofs.Adding.{within-plus, beyond-plus}
use Rattle.award_assembly.proofs.reach.fit_together.Goals as goal

pub returns-then-quantity-supply : goal.returns-then-quantity-supply
returns-then-quantity-supply c =
    sym (beyond-plus c.args.goods.now c.args.x.now c.args.y.now c.loop-good.good (omega (arith, c.quantity.ensures, c.quantity-in-loop-good.ensures, c.supply.ensures)))

pub returns : goal.returns
returns c = sym (within-plus c.args.goods.now c.args.x.now c.args.y.now c.requires.x c.requires.y (λ k below. c.loop-good.invariant k (omega (arith, c.count-good-end.ensures.length))))
