use Rattle.valuation.proofs.MarginalStrong.{marginal-strong}
use Rattle.valuation.proofs.UnitStrong.{unit-strong}
use Rattle.valuation.proofs.CappedStrong.{capped-strong}
use Rattle.valuation.proofs.laws.forms_law.Goals as goal

pub returns-clause-marginal : goal.returns-clause-marginal
returns-clause-marginal c = marginal-strong

pub returns-clause-unit : goal.returns-clause-unit
returns-clause-unit c supply values = unit-strong values supply

pub returns-clause-capped : goal.returns-clause-capped
returns-clause-capped c supply values cap = capped-strong values supply cap
