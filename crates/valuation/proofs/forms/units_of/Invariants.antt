use Rattle.std.proofs.Common.{◌≡◌, ◌≤◌, ◌+◌, ◌*◌, ◌^◌, drop}
use Rattle.valuation.specs.Forms.{total}
use Rattle.valuation.proofs.forms.units_of.Given as goal

abbrev pub invariant-loop-quantity : goal.invariant-loop-quantity
invariant-loop-quantity l = record {
  so_far : l.sum + total (drop l.quantity-index l.x) ≡ total l.x;
  small : l.sum ≤ l.quantity-index * 2 ^ 16;
}
