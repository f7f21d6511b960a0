use Rattle.std.proofs.Common.{◌≡◌, ◌≤◌, ◌+◌, ◌*◌, ◌^◌, drop, length}
use Rattle.valuation.specs.Forms.{total, marginal_value}
use Rattle.valuation.proofs.forms.marginal_value.Given as goal

abbrev pub invariant-loop-good : goal.invariant-loop-good
invariant-loop-good l = record {
  so_far : l.worth + marginal_value (drop l.good l.supply) l.rest (drop l.good l.x) ≡ marginal_value l.supply l.entries l.x;
  count : length l.rest ≡ total (drop l.good l.supply);
  small : l.worth ≤ l.good * 2 ^ 48;
}
