use Rattle.lyapunov.proofs.Descent.{lyapunov-raised}
use Rattle.lyapunov.proofs.Digits.{true_step-lowers}
use Rattle.lyapunov.proofs.laws.descent_law.Goals as goal

pub returns-clause-excess : goal.returns-clause-excess
returns-clause-excess c = λ supply js p u set strong same. lyapunov-raised supply u js strong p set same

pub returns-clause-step : goal.returns-clause-step
returns-clause-step c = λ supply js p u strong same some. true_step-lowers supply u js strong p same some
