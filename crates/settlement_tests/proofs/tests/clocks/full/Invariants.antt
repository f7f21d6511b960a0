use Rattle.std.proofs.Common.{◌≡◌}
use Rattle.settlement_tests.proofs.tests.clocks.full.Given as goal

abbrev pub invariant-loop-round : goal.invariant-loop-round
invariant-loop-round g l = (l.clock.history.terms ≡ l.terms) × (l.clock.history.number ≡ l.number)
