use Rattle.lyapunov.proofs.Moments.{least_near_opening}
use Rattle.lyapunov.proofs.laws.moment_law.Goals as goal

pub returns : goal.returns
returns c = λ supply js opening sets u path. least_near_opening supply u js path.substitutes opening sets path.goods path.steps
