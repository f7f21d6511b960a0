use Rattle.rationale.specs.Decisions.{value_of}
use Rattle.rationale.proofs.Explained.{rational-no_cycle}
use Rattle.rationale.proofs.Decided.{one_table}
use Rattle.rationale.proofs.laws.decision_law.Goals as goal

pub returns-clause-values : goal.returns-clause-values
returns-clause-values c = λ supply os values e. (value_of supply values, e.valuation, e.explains)

pub returns-clause-cycle : goal.returns-clause-cycle
returns-clause-cycle c = λ supply os links n r. rational-no_cycle supply os r links n.negative

pub returns-clause-one : goal.returns-clause-one
returns-clause-one c = λ supply os values others e f. one_table supply os values others e f
