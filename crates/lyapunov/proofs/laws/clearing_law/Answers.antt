use Rattle.lyapunov.proofs.Duality.{clearing-walrasian, walrasian-clearing}
use Rattle.lyapunov.proofs.laws.clearing_law.Goals as goal

pub returns-clause-equilibrium : goal.returns-clause-equilibrium
returns-clause-equilibrium c = λ supply opening js p u x above clearing. clearing-walrasian supply opening u js p x above clearing

pub returns-clause-clears : goal.returns-clause-clears
returns-clause-clears c = λ supply opening js p u x same walrasian. walrasian-clearing supply opening u js p x same walrasian
