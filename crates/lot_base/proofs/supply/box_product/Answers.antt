use Rattle.std.proofs.Common.{arith, ◌≤◌, ◌<◌, ◌*◌, ◌+◌, ◌^◌, slice_index_or, ap, sym, ◌∙◌, drop, add-one, length}
use Rattle.std.proofs.Math.Nat.{mul-le-mul, mul_assoc, pow-suc}
use Rattle.lot_base.specs.Goods.{box_size}
use Rattle.lot_base.proofs.Sums.{box_of_drop, power_up}
use Rattle.lot_base.proofs.supply.box_product.Goals as goal

pub overflow_mul-product : goal.overflow_mul-product
overflow_mul-product c =
    let u = slice_index_or c.args.supply.now c.loop-units.units-index 0 in
    let p = power_up c.loop-units.units-index (omega arith) in
    let small : c.loop-units.product ≤ 2 ^ 80 = omega arith in
    let w : u + 1 ≤ 65536 = omega (arith, c.type_inv.supply c.loop-units.units-index) in
    let q : c.loop-units.product * (u + 1) ≤ 2 ^ 80 * 65536 = mul-le-mul small w in
    omega arith

pub loop-units-preserved : goal.loop-units-preserved
loop-units-preserved c =
    let u = slice_index_or c.args.supply.now c.loop-units.units-index 0 in
    let w : u + 1 ≤ 65536 = omega (arith, c.type_inv.supply c.loop-units.units-index) in
    let below : c.loop-units.units-index < length c.args.supply.now = omega arith in
    record {
      small = rw (add-one c.loop-units.units-index, pow-suc 65536 c.loop-units.units-index) (mul-le-mul c.loop-units.invariant.small w);
      rest =
          mul_assoc c.loop-units.product (u + 1) (box_size (drop (c.loop-units.units-index + 1) c.args.supply.now))
          ∙ ap (λ n. c.loop-units.product * n) (sym (box_of_drop c.args.supply.now c.loop-units.units-index below))
          ∙ c.loop-units.invariant.rest;
    }
