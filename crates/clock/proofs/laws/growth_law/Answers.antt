use Rattle.clock.proofs.Growing.{grows}
use Rattle.clock.proofs.laws.growth_law.Goals as goal

pub returns : goal.returns
returns c = λ k r take. grows k r take
