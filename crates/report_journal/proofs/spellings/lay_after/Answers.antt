use Rattle.std.proofs.Common.{take}
use Rattle.report_journal.proofs.spellings.lay_after.Goals as goal

pub returns-clause-behind : goal.returns-clause-behind
returns-clause-behind g c = (take c.next-length.result c.next-length.new.into, c.next-length.ensures.says, c.push_after.ensures.behind)
