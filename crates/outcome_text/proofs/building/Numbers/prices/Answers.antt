use Rattle.std.proofs.Common.{◌<◌, ◌^◌, rules}
use Rattle.outcome_text.proofs.Cells.{one-more-taken, not-taken}
use Rattle.outcome_text.proofs.building.Numbers.prices.Goals as goal

pub returns-in_err-prices-clause-back : goal.returns-in_err-prices-clause-back
returns-in_err-prices-clause-back c = λ ns behind is e.
    absurd (not-taken (2 ^ 32) c.args.goods c.loop-good.good c.args.self.now.rest.now c.loop-good.self.rest.now c.next_price.new.self.rest.now c.loop-good.prices ns behind c.loop-good.invariant c.loop-good-test.true c.in_err-prices.ensures is.fit is.in_range e)

pub loop-good-preserved : goal.loop-good-preserved
loop-good-preserved c =
    let small : c.in_ok-prices.field-0 < (2 ^ 32) = search rules in
    one-more-taken (2 ^ 32) c.args.goods c.loop-good.good c.args.self.now.rest.now c.loop-good.self.rest.now c.next_price.new.self.rest.now c.loop-good.prices c.in_ok-prices.field-0 c.loop-good.invariant c.loop-good-test.true c.requires.at_most small c.in_ok-prices.ensures
