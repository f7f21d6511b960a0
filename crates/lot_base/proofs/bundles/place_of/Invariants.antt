use Rattle.std.proofs.Common.{length}
use Rattle.lot_base.proofs.Digits.{IsSoFar}
use Rattle.lot_base.proofs.bundles.place_of.Given as goal

abbrev pub invariant-loop-units : goal.invariant-loop-units
invariant-loop-units l = IsSoFar l.supply l.quantities (length l.yielded) l.place
