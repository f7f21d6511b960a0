use Rattle.std.proofs.Common.{◌+◌, ◌-◌, ◌*◌, ◌^◌, ◌∙◌, ◌≡◌, ap, length, arith, rules}
use Rattle.valuation.proofs.Spread.{spread-start, spread-next, spread-small}
use Rattle.std.proofs.lemmas.List.{get_or_default}
use Rattle.valuation.proofs.costs.spread.Goals as goal

pub loop-place-init : goal.loop-place-init
loop-place-init c = record {
  whole = (let e = c.len-size.ensures in omega (arith, e));
  high = omega arith;
  each = λ i inside. spread-start c.args.costs.now.items c.len-size.result c.args.price i inside;
}

pub overflow_add-cost : goal.overflow_add-cost
overflow_add-cost c =
    let items = c.args.costs.now.items in
    let size = c.len-size.result in
    let place = c.loop-place.place in
    let read = c.len-size.ensures in
    let e : size ≡ length items = omega (arith, read) in
    let some = c.requires.some in
    let few = c.requires.few in
    let high = c.loop-place.invariant.high in
    let test = c.loop-place-test.true in
    let turned : size * (c.args.units + 1) ≡ (c.args.units + 1) * length items = (let t : size * (c.args.units + 1) ≡ (c.args.units + 1) * size = grind arith in t ∙ ap (λ n. (c.args.units + 1) * n) e) in
    let so_far = c.loop-place.invariant.each (place - size) (omega arith) in
    let small = spread-small items size c.args.price (place - size) (2 ^ 50) c.requires.small (omega arith) (omega arith) in
    let whole = c.loop-place.invariant.whole in
    let here = c.index.ensures ∙ get_or_default c.loop-place.costs.items (place - size) c.index.result.now 0 (omega arith) in
    omega arith

pub loop-place-preserved : goal.loop-place-preserved
loop-place-preserved c =
    let size = c.len-size.result in
    let place = c.loop-place.place in
    let e = c.len-size.ensures in
    let some = c.requires.some in
    let high = c.loop-place.invariant.high in
    let whole = c.loop-place.invariant.whole in
    let test = c.loop-place-test.true in
    record {
      whole = search rules;
      high = omega arith;
      each = rw c.in_ok-push.ensures.items
          (spread-next c.args.costs.now.items c.loop-place.costs.items size c.args.price place _ (omega arith) high whole c.loop-place.invariant.each (ap (λ n. n + c.args.price) (c.index.ensures ∙ get_or_default c.loop-place.costs.items (place - size) c.index.result.now 0 (omega arith))));
    }
