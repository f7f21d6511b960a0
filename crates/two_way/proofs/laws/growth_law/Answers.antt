use Rattle.two_way.proofs.Growing.{grows}
use Rattle.two_way.proofs.laws.growth_law.Goals as goal

pub returns : goal.returns
returns c = λ h r start. grows h r start
