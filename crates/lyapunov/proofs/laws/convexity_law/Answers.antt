use Rattle.lyapunov.proofs.Descent.{lyapunov-halfway}
use Rattle.lyapunov.proofs.laws.convexity_law.Goals as goal

pub returns : goal.returns
returns c = λ supply js p q u strong. lyapunov-halfway supply u js strong p q
