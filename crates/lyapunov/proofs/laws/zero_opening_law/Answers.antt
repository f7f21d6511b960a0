use Rattle.std.proofs.lemmas.List.{length-replicate}
use Rattle.lyapunov.proofs.Duality.{AtMost-any, worth-zeros, welfare-nobody}
use Rattle.lyapunov.proofs.laws.zero_opening_law.Goals as goal

pub returns-clause-goods : goal.returns-clause-goods
returns-clause-goods c = λ supply. length-replicate _ _

pub returns-clause-below : goal.returns-clause-below
returns-clause-below c = λ supply p same. AtMost-any supply p same

pub returns-clause-worth : goal.returns-clause-worth
returns-clause-worth c = λ supply js u x. worth-zeros supply u js x

pub returns-clause-nobody : goal.returns-clause-nobody
returns-clause-nobody c = λ supply u. welfare-nobody supply u
