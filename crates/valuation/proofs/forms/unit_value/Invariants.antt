use Rattle.std.proofs.Common.{◌≡◌, max, drop}
use Rattle.valuation.specs.Forms.{unit_value}
use Rattle.valuation.proofs.forms.unit_value.Given as goal

abbrev pub invariant-loop-good : goal.invariant-loop-good
invariant-loop-good l = max l.best (unit_value (drop l.good l.values) (drop l.good l.x)) ≡ unit_value l.values l.x
