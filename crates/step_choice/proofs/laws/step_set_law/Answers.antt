use Rattle.std.proofs.Common.{length}
use Rattle.lot_base.specs.Steps.{excess, step_set}
use Rattle.lot_base.proofs.StepSet.{first_set-step_set}
use Rattle.step_choice.proofs.laws.step_set_law.Goals as goal

pub returns : goal.returns
unfolding step_set
returns c = λ supply demands members. first_set-step_set (length supply) (excess supply demands members)
