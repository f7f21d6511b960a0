use Rattle.std.proofs.Common.{sym, arith}
use Rattle.award_assembly.proofs.Adding.{sold-clears, unsold-clears}
use Rattle.award_assembly.proofs.reach.clears.Goals as goal

pub returns-then-quantity-supply : goal.returns-then-quantity-supply
returns-then-quantity-supply c =
    sym (unsold-clears c.args.goods.now c.args.opening.now c.args.prices.now c.args.total.now c.loop-good.good (omega (arith, c.if-get.true, c.get.ensures, c.get-in-loop-good.ensures)) (λ same. c.if-quantity-supply.true (omega (arith, c.quantity.ensures, c.supply.ensures))))

pub returns : goal.returns
returns c = sym (sold-clears c.args.goods.now c.args.opening.now c.args.prices.now c.args.total.now c.requires.opening c.requires.prices c.requires.total (λ k below some. c.loop-good.invariant k (omega (arith, c.count-good-end.ensures.length)) some))
