use Rattle.clock.specs.Reports.{histories}
use Rattle.settlement.proofs.Auction.{AreFirst}
use Rattle.settlement_tests.proofs.tests.clocks.clocks_of.Given as goal

abbrev pub invariant-loop-number : goal.invariant-loop-number
invariant-loop-number g l = AreFirst l.terms l.number (histories l.clocks.items)
