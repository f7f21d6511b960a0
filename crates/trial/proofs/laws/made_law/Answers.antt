use Rattle.trial.proofs.MadeStrong.{made-strong}
use Rattle.trial.proofs.laws.made_law.Goals as goal

pub returns : goal.returns
returns c = made-strong
