use Rattle.lyapunov.proofs.Existence.{minimiser-clears}
use Rattle.lyapunov.proofs.laws.minimiser_law.Goals as goal

pub returns : goal.returns
returns c = λ supply opening js p u strong same least. minimiser-clears supply opening u js p strong same least
