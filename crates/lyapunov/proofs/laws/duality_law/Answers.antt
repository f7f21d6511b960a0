use Rattle.lyapunov.proofs.Duality.{weak_duality}
use Rattle.lyapunov.proofs.laws.duality_law.Goals as goal

pub returns : goal.returns
returns c = λ supply opening js p u x above allocation. weak_duality supply opening u js p x above allocation
