use Rattle.clock.proofs.SameSets.{sets-same, round-same, only-ceiling}
use Rattle.clock.proofs.laws.repeat_law.Goals as goal

pub returns-clause-same : goal.returns-clause-same
returns-clause-same c = λ h m n all. sets-same h m n all

pub returns-clause-set : goal.returns-clause-set
returns-clause-set c = λ h idle. round-same h idle

pub returns-clause-ceiling : goal.returns-clause-ceiling
returns-clause-ceiling c = λ h idle. only-ceiling h idle
