use Rattle.report_log.proofs.LogBytes.{log-or-fault, no-fault, one-history, one-place}
use Rattle.report_log.proofs.laws.log_law.Goals as goal

pub returns-clause-either : goal.returns-clause-either
returns-clause-either c = λ terms bytes are. log-or-fault terms bytes are

pub returns-clause-not_both : goal.returns-clause-not_both
returns-clause-not_both c = λ terms bytes history place is faulty. no-fault terms history bytes place is faulty

pub returns-clause-one : goal.returns-clause-one
returns-clause-one c = λ terms bytes history other is it. one-history terms history other bytes is it

pub returns-clause-one_place : goal.returns-clause-one_place
returns-clause-one_place c = λ terms bytes place other are is it. one-place terms bytes place other are is it
