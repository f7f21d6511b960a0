use Rattle.exchange_check.proofs.Local.{strong_of_local, local_of_strong}
use Rattle.exchange_check.proofs.laws.local_law.Goals as goal

pub returns : goal.returns
returns c = λ supply u. (strong_of_local supply u, local_of_strong supply u)
