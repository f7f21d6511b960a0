use Rattle.settlement.proofs.TruthPays.{all-among}
use Rattle.settlement.proofs.Misreports.{misreports}
use Rattle.settlement.proofs.incentives.among_law.Goals as goal

pub returns-clause-truth : goal.returns-clause-truth
returns-clause-truth c = all-among

pub returns-clause-misreport : goal.returns-clause-misreport
returns-clause-misreport c = misreports
