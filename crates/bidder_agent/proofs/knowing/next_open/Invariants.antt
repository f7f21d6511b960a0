use Rattle.std.proofs.Common.{◌≡◌, ◌-◌, length, drop}
use Rattle.bidder_agent.specs.Knowing.{open_in}
use Rattle.bidder_agent.proofs.knowing.next_open.Given as goal

abbrev pub invariant-clocks : goal.invariant-clocks
invariant-clocks l = open_in l.who l.from (drop l.from l.known) ≡ open_in l.who l.clock (drop l.clock l.known)

abbrev pub decreases-clocks : goal.decreases-clocks
decreases-clocks l = length l.known - l.clock
