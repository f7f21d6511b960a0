use Rattle.std.proofs.Common.{◌≡◌}
use Rattle.settlement_tests.proofs.tests.clocks.fill.Given as goal

abbrev pub invariant-loop-place : goal.invariant-loop-place
invariant-loop-place g l = (l.clock.history.terms ≡ l.initial.clock.history.terms) × (l.clock.history.number ≡ l.initial.clock.history.number)
