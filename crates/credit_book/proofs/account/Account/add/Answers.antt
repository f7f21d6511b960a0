use Rattle.std.proofs.Common.{◌∙◌, ◌+◌, ap}
use Rattle.std.specs.Prelude.{◌+ℤ◌}
use Rattle.credit_book.specs.Account.{units_left, sum_without}
use Rattle.credit_book.proofs.Totals.{sum_without-added}
use Rattle.credit_book.proofs.account.Account.add.Goals as goal

pub returns-clause-sums : goal.returns-clause-sums
returns-clause-sums c = λ bidder.
    sum_without-added _ _ c.args.goods.now c.args.tables.now c.args.set.0 bidder (ap (λ n. c.self.inside.units + n) c.units.ensures) c.add_least.ensures.sums
    ∙ ap (λ a. sum_without a bidder +ℤ units_left c.args.goods.now c.args.tables.now c.args.set.0 bidder) c.self.view_is
