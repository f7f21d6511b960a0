use Rattle.std.proofs.Common.{◌<◌, ℕ}
use Rattle.two_way.specs.Histories.{IsOutside}
use Rattle.two_way.proofs.starting.first_outside.Given as goal

abbrev pub invariant-loop-good : goal.invariant-loop-good
invariant-loop-good l = (k : ℕ) → k < l.good → IsOutside l.fn.terms l.fn.start k → ⊥
