use Rattle.std.proofs.Common.{sym}
use Rattle.clock.proofs.Path.{has_steps, steps-only}
use Rattle.clock.proofs.laws.steps_law.Goals as goal

pub returns-clause-exists : goal.returns-clause-exists
returns-clause-exists c = λ history. has_steps history

pub returns-clause-unique : goal.returns-clause-unique
returns-clause-unique c = λ history steps has. sym (steps-only history steps has)
