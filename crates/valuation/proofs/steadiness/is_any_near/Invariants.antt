use Rattle.std.proofs.Common.{◌≡◌, false}
use Rattle.valuation.specs.Carried.{AreSteady}
use Rattle.valuation.proofs.steadiness.is_any_near.Given as goal

abbrev pub invariant-loop-place : goal.invariant-loop-place
invariant-loop-place l = l.near ≡ false → AreSteady l.worth l.units l.best l.least l.first l.place l.limit
