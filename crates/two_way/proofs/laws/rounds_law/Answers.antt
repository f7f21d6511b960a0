use Rattle.std.proofs.Common.{sym}
use Rattle.two_way.proofs.Rounds.{both-ways, has-steps, steps-only}
use Rattle.two_way.proofs.laws.rounds_law.Goals as goal

pub returns-clause-exists : goal.returns-clause-exists
returns-clause-exists c = λ h start. has-steps h start

pub returns-clause-unique : goal.returns-clause-unique
returns-clause-unique c = λ h steps start is. sym (steps-only h start steps is)

pub returns-clause-both : goal.returns-clause-both
returns-clause-both c = λ h n. both-ways h n
