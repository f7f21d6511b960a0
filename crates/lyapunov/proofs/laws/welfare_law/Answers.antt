use Rattle.lyapunov.proofs.Duality.{walrasian-welfare, walrasian-worth, walrasian-minimises, welfare-one}
use Rattle.lyapunov.proofs.laws.welfare_law.Goals as goal

pub returns-clause-welfare : goal.returns-clause-welfare
returns-clause-welfare c = λ supply opening js p u x walrasian. walrasian-welfare supply opening u js p x walrasian

pub returns-clause-value : goal.returns-clause-value
returns-clause-value c = λ supply opening js p u x walrasian. walrasian-worth supply opening u js p x walrasian

pub returns-clause-minimiser : goal.returns-clause-minimiser
returns-clause-minimiser c = λ supply opening js p u x walrasian. walrasian-minimises supply opening u js p x walrasian

pub returns-clause-one : goal.returns-clause-one
returns-clause-one c = λ supply opening js u w v is also. welfare-one supply opening u js w v is also
