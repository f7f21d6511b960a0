use Rattle.lyapunov.proofs.Moments.{ended-least}
use Rattle.lyapunov.proofs.laws.end_law.Goals as goal

pub returns : goal.returns
returns c = λ supply js opening sets u path ended. ended-least supply u js path.substitutes opening sets path.goods path.steps ended
