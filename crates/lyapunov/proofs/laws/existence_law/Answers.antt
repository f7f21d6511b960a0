use Rattle.lyapunov.proofs.Existence.{choice_exists}
use Rattle.lyapunov.proofs.laws.existence_law.Goals as goal

pub returns : goal.returns
returns c = λ supply js opening sets u path ended. choice_exists supply u js path.substitutes opening sets path.goods path.steps ended
