use Rattle.lot_base.proofs.Sets.{least_step, greatest_step}
use Rattle.lot_base.proofs.laws.step_law.Goals as goal

pub returns-clause-least : goal.returns-clause-least
returns-clause-least c = λ supply p u set strong same. least_step supply u p set strong same

pub returns-clause-greatest : goal.returns-clause-greatest
returns-clause-greatest c = λ supply p u set strong same priced. greatest_step supply u p set strong same priced
