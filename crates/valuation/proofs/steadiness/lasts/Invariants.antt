use Rattle.std.proofs.Common.{◌<◌, ◌*◌, ◌^◌}
use Rattle.valuation.specs.Carried.{AreSteady}
use Rattle.valuation.proofs.steadiness.lasts.Given as goal

abbrev pub invariant-loop-group : goal.invariant-loop-group
invariant-loop-group l = record {
  fits : l.least * l.limit < 2 ^ 16;
  steady : AreSteady l.worth l.units l.best l.least 0 (l.group * 32) l.limit;
}
