use Rattle.std.proofs.Common.{◌≡◌}
use Rattle.observed_demand_tests.proofs.tests.fill.Given as goal

abbrev pub invariant-loop-step : goal.invariant-loop-step
invariant-loop-step l = l.clock.history.terms ≡ l.terms
