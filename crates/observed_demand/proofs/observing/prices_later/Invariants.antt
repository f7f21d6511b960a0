use Rattle.std.proofs.Common.{◌≡◌, ◌-◌}
use Rattle.clock.specs.Standing.{prices_after}
use Rattle.observed_demand.proofs.observing.prices_later.Given as goal

abbrev pub invariant-loop-round : goal.invariant-loop-round
invariant-loop-round l = l.now ≡ prices_after l.clock.history (l.round - 1)
