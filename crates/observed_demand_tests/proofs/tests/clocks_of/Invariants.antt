use Rattle.std.proofs.Common.{◌≡◌}
use Rattle.std.specs.List.{AllByRecursion}
use Rattle.clock.specs.Reports.{ClockHistory, histories}
use Rattle.observed_demand_tests.proofs.tests.clocks_of.Given as goal

abbrev pub invariant-loop-number : goal.invariant-loop-number
invariant-loop-number l = AllByRecursion (λ (c : ClockHistory). c.terms ≡ l.terms) (histories l.clocks.items)
