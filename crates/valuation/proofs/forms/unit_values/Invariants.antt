use Rattle.std.proofs.Common.{◌≡◌, map, take}
use Rattle.lot_base.specs.Box.{box}
use Rattle.valuation.specs.Forms.{unit_value}
use Rattle.valuation.proofs.forms.unit_values.Given as goal

abbrev pub invariant-loop-index : goal.invariant-loop-index
invariant-loop-index l = l.worth.items ≡ map (unit_value l.values) (take l.index (box l.goods))
