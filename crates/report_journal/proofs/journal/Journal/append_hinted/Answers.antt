use Rattle.report_journal.proofs.Appending.{untouched}
use Rattle.report_journal.proofs.journal.Journal.append_hinted.Goals as goal

pub returns-then-is_some-clause-writes : goal.returns-then-is_some-clause-writes
returns-then-is_some-clause-writes g c = rw (← c.self.view_is) (untouched _ _ _ _ _ (λ told. (c.self.invariant.1 told).0))

pub returns-then-needed-gt-GREATEST_FILE-clause-writes : goal.returns-then-needed-gt-GREATEST_FILE-clause-writes
returns-then-needed-gt-GREATEST_FILE-clause-writes g c = rw (← c.self.view_is) (untouched _ _ _ _ _ (λ told. (c.self.invariant.1 told).0))

pub returns-in-Err-clause-writes : goal.returns-in-Err-clause-writes
returns-in-Err-clause-writes g c = rw (c.in-Err.ensures.err, ← c.self.view_is) (untouched _ _ _ _ _ (λ told. (c.self.invariant.1 told).0))
