use Rattle.report_journal.proofs.FindKind.{one_kind}
use Rattle.report_journal.proofs.laws.each_file_is_of_one_kind.Goals as goal

pub returns : goal.returns
returns c = one_kind
