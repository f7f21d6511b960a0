use Rattle.std.proofs.Common.{◌≤◌, ℕ}
use Rattle.lot_base.specs.Economy.{IsStrongSubstitutes}
use Rattle.trial.specs.Bidding.{bidders_of}
use Rattle.two_way.proofs.floating.check_all.Given as goal

abbrev pub invariant-loop-place : goal.invariant-loop-place
invariant-loop-place l = (j : ℕ) → 1 ≤ j → j ≤ l.place → IsStrongSubstitutes l.fn.terms.goods (bidders_of l.fn.terms.goods l.fn.valuations j)
