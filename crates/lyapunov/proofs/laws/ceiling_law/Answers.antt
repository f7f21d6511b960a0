use Rattle.lyapunov.proofs.Ceiling.{below_ceiling}
use Rattle.lyapunov.proofs.laws.ceiling_law.Goals as goal

pub returns : goal.returns
returns c = λ supply js opening sets u ceiling good values low path. below_ceiling supply u ceiling js path.substitutes values low opening sets path.goods path.steps good
