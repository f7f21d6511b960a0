use Rattle.std.proofs.Common.{◌≡◌}
use Rattle.reported_clocks.proofs.clock_of.Given as goal

abbrev pub invariant-loop-bidder : goal.invariant-loop-bidder
invariant-loop-bidder l = (l.clock.history.terms ≡ l.terms) × (l.clock.history.number ≡ l.number)
