use Rattle.clock.specs.Reports.{histories}
use Rattle.migration_tests.specs.Sellers.{AreClocksOf}
use Rattle.migration_tests.proofs.tests.clocks_of.Given as goal

abbrev pub invariant-loop-number : goal.invariant-loop-number
invariant-loop-number l = AreClocksOf l.terms l.number (histories l.clocks.items)
