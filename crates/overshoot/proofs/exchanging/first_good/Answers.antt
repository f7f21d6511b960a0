use Rattle.std.proofs.Common.{arith}
use Rattle.lot_base.proofs.Vec.{within_from_at, length-below}
use Rattle.overshoot.proofs.exchanging.first_good.Goals as goal

pub returns-clause-none : goal.returns-clause-none
returns-clause-none c = λ l h.
    let w = within_from_at c.args.pair.now.x l (omega arith) in
    let len = length-below c.args.pair.now.x c.args.table.now.goods c.requires.pair.in_x in
    c.loop-good.invariant l (omega (arith, c.loop-good-test.false, c.count-good-end.ensures.length)) h
