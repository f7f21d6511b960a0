use Rattle.std.proofs.Common.{◌≡◌}
use Rattle.observed_demand_tests.proofs.tests.clock_of.Given as goal

abbrev pub invariant-loop-before : goal.invariant-loop-before
invariant-loop-before l = l.clock.history.terms ≡ l.terms
