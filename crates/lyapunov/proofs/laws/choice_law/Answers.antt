use Rattle.lyapunov.proofs.Bidders.{map-bundle_of}
use Rattle.lyapunov.proofs.laws.choice_law.Goals as goal

pub returns : goal.returns
returns c = λ js choice different same. map-bundle_of js choice different same
