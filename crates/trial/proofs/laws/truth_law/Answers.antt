use Rattle.trial.proofs.Truths.{best, no-loss}
use Rattle.trial.proofs.laws.truth_law.Goals as goal

pub returns-clause-best : goal.returns-clause-best
returns-clause-best c = best

pub returns-clause-no_loss : goal.returns-clause-no_loss
returns-clause-no_loss c = no-loss
