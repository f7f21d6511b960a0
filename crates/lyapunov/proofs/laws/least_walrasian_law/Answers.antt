use Rattle.lyapunov.proofs.Moments.{ended-least}
use Rattle.lyapunov.proofs.Duality.{walrasian-minimises}
use Rattle.lyapunov.proofs.Existence.{ended-walrasian}
use Rattle.lyapunov.proofs.laws.least_walrasian_law.Goals as goal

pub returns-clause-below : goal.returns-clause-below
returns-clause-below c = λ supply js opening sets q u path ended walrasian.
    (ended-least supply u js path.substitutes opening sets path.goods path.steps ended).1 q (walrasian-minimises supply opening u js q walrasian.0 walrasian.1)

pub returns-clause-least : goal.returns-clause-least
returns-clause-least c = λ supply js opening sets u different path ended. (
  ended-walrasian supply u js different path.substitutes opening sets path.goods path.steps ended,
  λ q walrasian. (ended-least supply u js path.substitutes opening sets path.goods path.steps ended).1 q (walrasian-minimises supply opening u js q walrasian.0 walrasian.1),
)
