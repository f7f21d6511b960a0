use Rattle.std.proofs.Common.{◌≡◌, None, replicate}
use Rattle.clock.proofs.clocks.no_demands.Given as goal

abbrev pub invariant-loop : goal.invariant-loop
invariant-loop l = l.demands.items ≡ replicate l.counter None
