use Rattle.std.proofs.Common.{◌≡◌, drop}
use Rattle.clock.specs.Standing.{good_from}
use Rattle.clock.proofs.next_step.first_at.Given as goal

abbrev pub invariant-loop-good : goal.invariant-loop-good
invariant-loop-good l = good_from l.good l.ceiling (drop l.good l.prices) l.rest ≡ good_from 0 l.ceiling l.prices l.fn.set.0
