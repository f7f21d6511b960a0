use Rattle.std.proofs.Common.{◌≡◌}
use Rattle.two_way_tests.proofs.tests.greatest.rise.Given as goal

abbrev pub invariant-loop-step : goal.invariant-loop-step
invariant-loop-step g l = l.clock.terms ≡ l.initial.clock.terms
