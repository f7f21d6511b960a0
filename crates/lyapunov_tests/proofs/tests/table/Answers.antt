use Rattle.lyapunov.proofs.Entries.{IsSmall-blank, IsSmall-set}
use Rattle.lyapunov_tests.proofs.tests.table.Goals as goal

pub returns : goal.returns
returns c = IsSmall-set _ 3 _ c.requires.both (IsSmall-set _ 2 _ c.requires.second (IsSmall-set _ 1 _ c.requires.first (IsSmall-blank 64)))
