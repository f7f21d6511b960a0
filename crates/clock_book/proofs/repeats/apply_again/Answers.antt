-- The payload of these parts spells the report that moved on.
use Rattle.std.proofs.Common.{◌≡◌, ◌<◌, ◌^◌, length, arith}
use Rattle.clock_book.proofs.PayloadsAgain.{if-done, takes-payload}
use Rattle.clock_book.proofs.repeats.apply_again.Goals as goal

pub returns-clause-done : goal.returns-clause-done
returns-clause-done c =
    let goods : c.args.goods ≡ length c.args.terms.now.goods = omega (arith, c.if-goods-count.false, c.count.ensures.length) in
    let fits : c.args.round < 2 ^ 32 = omega (arith, c.ranges.round.fits) in
    if-done c.apply_again.result (takes-payload c.args.clock.now c.apply_again.new.self c.args.terms.now c.args.bidder c.args.round c.args.goods c.args.quantities.now c.requires goods fits) c.apply_again.ensures.done
