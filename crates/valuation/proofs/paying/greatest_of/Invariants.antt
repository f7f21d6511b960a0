use Rattle.std.proofs.Common.{◌≡◌, take}
use Rattle.valuation.specs.Carried.{greatest}
use Rattle.valuation.proofs.paying.greatest_of.Given as goal

abbrev pub invariant-loop-place : goal.invariant-loop-place
invariant-loop-place l = l.best ≡ greatest (take l.place l.worth)
