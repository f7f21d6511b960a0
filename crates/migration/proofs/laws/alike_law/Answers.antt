use Rattle.migration.proofs.Alike.{judges-alike}
use Rattle.migration.proofs.laws.alike_law.Goals as goal

pub returns : goal.returns
returns c = judges-alike
