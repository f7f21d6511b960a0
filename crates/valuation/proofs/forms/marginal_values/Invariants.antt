use Rattle.std.proofs.Common.{◌≡◌, map, take}
use Rattle.lot_base.specs.Box.{box}
use Rattle.valuation.specs.Forms.{marginal_value}
use Rattle.valuation.proofs.forms.marginal_values.Given as goal

abbrev pub invariant-loop-index : goal.invariant-loop-index
invariant-loop-index l = l.values.items ≡ map (marginal_value l.goods l.entries) (take l.index (box l.goods))
