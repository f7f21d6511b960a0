use Rattle.step_choice.proofs.Ones.{size-ones}
use Rattle.step_choice.proofs.size.Goals as goal

pub returns : goal.returns
returns c = λ goods below. size-ones goods c.args.set below
