use Rattle.two_way.proofs.FallSets.{fall-greatest, greatest-is}
use Rattle.two_way.proofs.laws.fall_set_law.Goals as goal

pub returns-clause-exists : goal.returns-clause-exists
returns-clause-exists c = λ supply opening p demands members. fall-greatest supply opening p demands members

pub returns-clause-unique : goal.returns-clause-unique
returns-clause-unique c = λ supply opening p demands members set short is. greatest-is supply opening p demands members set short is
