use Rattle.settlement.proofs.Same.{same-stand}
use Rattle.settlement.proofs.One.{one-outcome, all-same}
use Rattle.settlement.proofs.laws.order_law.Goals as goal

pub returns-clause-standing : goal.returns-clause-standing
returns-clause-standing c = λ a b h. same-stand a b h

pub returns-clause-outcome : goal.returns-clause-outcome
returns-clause-outcome c = λ clocks others s t same h k. one-outcome clocks others s t (all-same clocks others same) h k
