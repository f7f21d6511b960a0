-- A digit above the supply leaves no place; each other one is added after those so far.
use Rattle.std.proofs.Common.{◌≤◌, ◌+◌, ◌*◌, ◌∙◌, sym, arith, drop, get_or}
use Rattle.std.proofs.Math.Nat.{mul-le-mul}
use Rattle.std.proofs.lemmas.List.{drop_all}
use Rattle.demand_set.proofs.PlaceOrder.{place_from-all, place_from-end, digit-step, digit-above, digit-within, digits-small, place-small}
use Rattle.demand_set.proofs.box_order.place_within.Goals as goal

pub loop-good-init : goal.loop-good-init
loop-good-init c = record { small = omega arith; so_far = place_from-all c.args.supply.now c.args.quantities.now c.requires.same }

pub returns-then-quantity-units : goal.returns-then-quantity-units
returns-then-quantity-units c =
    sym (digit-step c.args.supply.now c.args.quantities.now c.loop-good.place c.loop-good.good c.loop-good-test.true c.requires.same
    ∙ digit-above (get_or c.args.quantities.now c.loop-good.good 0) (get_or c.args.supply.now c.loop-good.good 0) _ c.if-quantity-units.true)
    ∙ c.loop-good.invariant.so_far

pub overflow_mul-place : goal.overflow_mul-place
overflow_mul-place c =
    let few = place-small c.args.supply.now c.loop-good.place c.loop-good.good c.loop-good.invariant.small in
    let units = c.type_inv.supply c.loop-good.good in
    let p : c.loop-good.place ≤ 2047 = omega (arith, few, c.requires.small) in
    let u : get_or c.args.supply.now c.loop-good.good 0 + 1 ≤ 65536 = omega (arith, units) in
    let m : c.loop-good.place * (get_or c.args.supply.now c.loop-good.good 0 + 1) ≤ 2047 * 65536 = mul-le-mul p u in
    omega (arith, m)

pub overflow_add-place-in-loop-good : goal.overflow_add-place-in-loop-good
overflow_add-place-in-loop-good c =
    let few = place-small c.args.supply.now c.loop-good.place c.loop-good.good c.loop-good.invariant.small in
    let units = c.type_inv.supply c.loop-good.good in
    let quantity = c.type_inv.quantities c.loop-good.good in
    let p : c.loop-good.place ≤ 2047 = omega (arith, few, c.requires.small) in
    let u : get_or c.args.supply.now c.loop-good.good 0 + 1 ≤ 65536 = omega (arith, units) in
    let m : c.loop-good.place * (get_or c.args.supply.now c.loop-good.good 0 + 1) ≤ 2047 * 65536 = mul-le-mul p u in
    omega (arith, m, quantity)

pub loop-good-preserved : goal.loop-good-preserved
loop-good-preserved c = record {
  small = digits-small c.args.supply.now c.loop-good.place c.loop-good.good (get_or c.args.quantities.now c.loop-good.good 0) c.loop-good-test.true c.if-quantity-units.false c.loop-good.invariant.small;
  so_far = sym (digit-step c.args.supply.now c.args.quantities.now c.loop-good.place c.loop-good.good c.loop-good-test.true c.requires.same
      ∙ digit-within (get_or c.args.quantities.now c.loop-good.good 0) (get_or c.args.supply.now c.loop-good.good 0) _ c.if-quantity-units.false)
      ∙ c.loop-good.invariant.so_far;
}

pub returns : goal.returns
returns c =
    sym (place_from-end c.loop-good.place (drop c.loop-good.good c.args.supply.now) (drop c.loop-good.good c.args.quantities.now) (drop_all c.loop-good.good c.args.supply.now c.loop-good-test.false))
    ∙ c.loop-good.invariant.so_far
