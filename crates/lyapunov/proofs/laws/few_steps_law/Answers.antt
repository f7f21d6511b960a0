use Rattle.lyapunov.proofs.Moments.{few_steps}
use Rattle.lyapunov.proofs.laws.few_steps_law.Goals as goal

pub returns : goal.returns
returns c = λ supply js opening sets u values path. few_steps supply u js path.substitutes values opening sets path.goods path.steps
