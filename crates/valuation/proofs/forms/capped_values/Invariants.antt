use Rattle.std.proofs.Common.{◌≡◌, map, take}
use Rattle.lot_base.specs.Box.{box}
use Rattle.valuation.specs.Forms.{capped_value}
use Rattle.valuation.proofs.forms.capped_values.Given as goal

abbrev pub invariant-loop-index : goal.invariant-loop-index
invariant-loop-index l = l.worth.items ≡ map (capped_value l.values l.cap) (take l.index (box l.goods))
