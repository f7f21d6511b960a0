use Rattle.std.proofs.Common.{◌<◌, ◌^◌, rules}
use Rattle.outcome_text.proofs.Cells.{one-more-taken, not-taken}
use Rattle.outcome_text.proofs.building.Numbers.bundle.Goals as goal

pub returns-in_err-quantities-clause-back : goal.returns-in_err-quantities-clause-back
returns-in_err-quantities-clause-back c = λ ns behind is e.
    absurd (not-taken (2 ^ 16) c.args.goods c.loop-good.good c.args.self.now.rest.now c.loop-good.self.rest.now c.next_quantity.new.self.rest.now c.loop-good.quantities ns behind c.loop-good.invariant c.loop-good-test.true c.in_err-quantities.ensures is.fit is.in_range e)

pub loop-good-preserved : goal.loop-good-preserved
loop-good-preserved c =
    let small : c.in_ok-quantities.field-0 < (2 ^ 16) = search rules in
    one-more-taken (2 ^ 16) c.args.goods c.loop-good.good c.args.self.now.rest.now c.loop-good.self.rest.now c.next_quantity.new.self.rest.now c.loop-good.quantities c.in_ok-quantities.field-0 c.loop-good.invariant c.loop-good-test.true c.requires.at_most small c.in_ok-quantities.ensures
