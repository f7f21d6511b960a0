use Rattle.settlement.proofs.One.{one-outcome, all-alike}
use Rattle.settlement.proofs.laws.outcome_law.Goals as goal

pub returns : goal.returns
returns c = λ clocks s t h k. one-outcome clocks clocks s t (all-alike clocks) h k
