use Rattle.report_wire.proofs.Pairs.{one-report}
use Rattle.report_wire.proofs.laws.an_entry_is_of_one_report.Goals as goal

pub returns : goal.returns
returns c = one-report
