use Rattle.std.proofs.Common.{refl}
use Rattle.credit_book.proofs.Totals.{sum_without-none, zeros-at}
use Rattle.credit_book.proofs.account.Account.new.Goals as goal

pub returns-clause-sums : goal.returns-clause-sums
returns-clause-sums c = λ bidder. sum_without-none _ bidder refl (zeros-at 13)
