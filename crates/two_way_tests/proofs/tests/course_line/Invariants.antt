use Rattle.std.proofs.Common.{◌≡◌}
use Rattle.two_way_tests.proofs.tests.course_line.Given as goal

abbrev pub invariant-loop-bidder : goal.invariant-loop-bidder
invariant-loop-bidder g l = l.clock.terms ≡ l.terms
