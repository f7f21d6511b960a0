use Rattle.lot_base.proofs.Digits.{Digit}
use Rattle.lot_base.specs.Box.{bundle_at}
use Rattle.lot_base.proofs.bundles.take_digits.Given as goal

abbrev pub invariant-loop-unit : goal.invariant-loop-unit
invariant-loop-unit l = Digit (bundle_at l.fn.units l.place) l.units l.unit-index l.rest l.bundles
