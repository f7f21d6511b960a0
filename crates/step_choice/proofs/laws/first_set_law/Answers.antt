use Rattle.lot_base.proofs.StepSet.{first_set-step_set, step_set-unique}
use Rattle.step_choice.proofs.laws.first_set_law.Goals as goal

pub returns-clause-exists : goal.returns-clause-exists
returns-clause-exists c = λ goods f. first_set-step_set goods f

pub returns-clause-unique : goal.returns-clause-unique
returns-clause-unique c = λ goods f set other s o. step_set-unique goods f set other s o
