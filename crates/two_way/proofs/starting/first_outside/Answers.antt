use Rattle.std.proofs.Common.{arith}
use Rattle.two_way.proofs.Inside.{none-outside}
use Rattle.two_way.proofs.starting.first_outside.Goals as goal

pub returns : goal.returns
returns c =
    none-outside c.args.terms.now c.args.start.now c.requires (λ k below. c.loop-good.invariant k (let end = c.loop-good-test.false in let count = c.count-good-end.ensures in omega (arith, below, end, count)))
