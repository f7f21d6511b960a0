use Rattle.trial.proofs.Truths.{tried-known}
use Rattle.trial.proofs.laws.explained_law.Goals as goal

pub returns : goal.returns
returns c terms values clocks s are tried = (tried-known terms values clocks s are tried).explained
