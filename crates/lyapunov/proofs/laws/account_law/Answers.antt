use Rattle.lyapunov.proofs.Moments.{account-rises}
use Rattle.lyapunov.proofs.laws.account_law.Goals as goal

pub returns : goal.returns
returns c = λ supply js p sets u strong same. account-rises supply u js strong p sets same
