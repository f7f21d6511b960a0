use Rattle.std.proofs.Common.{arith, ◌≤◌, length, sym, subst}
use Rattle.std.proofs.lemmas.Bool.Decides.{nat_tests}
use Rattle.lot_base.specs.Goods.{IsSupply}
use Rattle.lot_base.proofs.supply.Goods.new.Goals as goal

pub invariant_of-result : goal.invariant_of-result
invariant_of-result c =
    let some : 1 ≤ length c.args.supply.now = grind (arith, nat_tests) in
    let supply : IsSupply c.args.supply.now = record { some_good = some; few_goods = omega arith; units = sym c.in_default.ensures; small = omega arith } in
    subst IsSupply (sym c.of.ensures) supply
