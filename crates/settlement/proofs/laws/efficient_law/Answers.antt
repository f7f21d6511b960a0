use Rattle.settlement.proofs.Unique.{one-price, one-pays}
use Rattle.settlement.proofs.laws.efficient_law.Goals as goal

pub returns-clause-prices : goal.returns-clause-prices
returns-clause-prices c = one-price

pub returns-clause-payments : goal.returns-clause-payments
returns-clause-payments c = one-pays
