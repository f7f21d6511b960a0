use Rattle.house_lives.proofs.Crashing.{death-leads, killed-leads, power-leads, several-lead}
use Rattle.house_lives.proofs.Leading.{move-leads, other-leads}
use Rattle.house_lives.proofs.laws.leads_law.Goals as goal

pub returns-clause-power : goal.returns-clause-power
returns-clause-power c = power-leads

pub returns-clause-death : goal.returns-clause-death
returns-clause-death c = death-leads

pub returns-clause-command : goal.returns-clause-command
returns-clause-command c = other-leads

pub returns-clause-several : goal.returns-clause-several
returns-clause-several c = several-lead

pub returns-clause-killed : goal.returns-clause-killed
returns-clause-killed c = killed-leads

pub returns-clause-migration : goal.returns-clause-migration
returns-clause-migration c = move-leads
