use Rattle.std.proofs.Common.{◌≡◌, take}
use Rattle.lyapunov.specs.Paths.{prices_along}
use Rattle.clock.specs.Reports.{set_numbers}
use Rattle.clock.proofs.rounds.prices_along.Given as goal

abbrev pub invariant-loop-set : goal.invariant-loop-set
invariant-loop-set l = l.prices ≡ prices_along l.opening (set_numbers (take l.set-index l.sets))
