use Rattle.recovery.proofs.Spelling.{one-report}
use Rattle.recovery.proofs.laws.one_report_law.Goals as goal

pub returns : goal.returns
returns c = one-report
