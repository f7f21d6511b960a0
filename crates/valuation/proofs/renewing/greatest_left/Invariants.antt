use Rattle.std.proofs.Common.{◌≡◌, ℕ, List, take}
use Rattle.valuation.specs.Carried.{IsLeft, greatest}
use Rattle.valuation.proofs.renewing.greatest_left.Given as goal

abbrev pub invariant-loop-place : goal.invariant-loop-place
invariant-loop-place l = (worth : List ℕ) → IsLeft l.values l.costs worth → l.best ≡ greatest (take l.place worth)
