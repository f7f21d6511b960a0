use Rattle.std.proofs.Common.{◌≡◌}
use Rattle.two_way_tests.proofs.tests.greatest.long_line.Given as goal

abbrev pub invariant-loop-rising : goal.invariant-loop-rising
invariant-loop-rising g l = l.clock.terms ≡ l.terms

abbrev pub invariant-loop-falling : goal.invariant-loop-falling
invariant-loop-falling g l = l.clock.terms ≡ l.terms
