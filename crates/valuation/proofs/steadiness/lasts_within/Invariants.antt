use Rattle.std.proofs.Common.{◌≤◌}
use Rattle.valuation.specs.Carried.{AreSteady}
use Rattle.valuation.proofs.steadiness.lasts_within.Given as goal

abbrev pub invariant-loop-place : goal.invariant-loop-place
invariant-loop-place l = record {
  fewer : l.limit ≤ l.most;
  steady : AreSteady l.worth l.units l.best l.least l.first l.place l.limit;
}
