use Rattle.settlement.proofs.TruthPays.{gain-whole, gain-best, gain-true}
use Rattle.settlement.proofs.incentives.truth_law.Goals as goal

pub returns-clause-whole : goal.returns-clause-whole
returns-clause-whole c = gain-whole

pub returns-clause-best : goal.returns-clause-best
returns-clause-best c = gain-best

pub returns-clause-no_loss : goal.returns-clause-no_loss
returns-clause-no_loss c = gain-true
