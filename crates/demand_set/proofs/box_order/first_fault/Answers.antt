-- The first bundle of those that are left has a fault, or it is passed over.
use Rattle.std.proofs.Common.{◌≡◌, ◌<◌, ◌+◌, ◌-◌, ◌/◌, ◌∙◌, ℕ, ◌∷◌, sym, ap, arith, length, take, drop, length-drop, refl, None, List}
use Rattle.demand_set.specs.Reading.{groups, bundles_of}
use Rattle.demand_set.proofs.Groups.{groups-next, left-next}
use Rattle.demand_set.proofs.PlaceOrder.{fault_by_place, fault_by_place-is, outside, found-at, found-small, too-low, goes-on, none-left}
use Rattle.demand_set.proofs.box_order.first_fault.Goals as goal

split : (supply rest x others : List ℕ) (place end least : ℕ) → place < end → x ≡ take (length supply) rest → others ≡ drop (length supply) rest
    → fault_by_place supply place least (x ∷ groups (end - (place + 1)) (length supply) others) ≡ fault_by_place supply place least (groups (end - place) (length supply) rest)
split supply rest x others place end least below front back =
    sym (ap (fault_by_place supply place least) (groups-next end place (length supply) rest below) ∙ (λ i. fault_by_place supply place least (sym front i ∷ groups (end - (place + 1)) (length supply) (sym back i))))

pub returns-in_default : goal.returns-in_default
returns-in_default c =
    let end = length c.args.quantities.now / length c.args.supply.now in
    let none = sym c.place_within.ensures ∙ c.in_default.is in
    sym (outside c.args.supply.now c.loop-place.place c.loop-place.least c.split_at.result.0.now (groups (end - (c.loop-place.place + 1)) (length c.args.supply.now) c.split_at.result.1.now) none)
    ∙ split c.args.supply.now c.loop-place.rest.now c.split_at.result.0.now c.split_at.result.1.now c.loop-place.place end c.loop-place.least c.loop-place-test.true c.split_at.ensures.front c.split_at.ensures.back
    ∙ c.loop-place.invariant.faults
    ∙ fault_by_place-is c.args.supply.now 0 0 None (bundles_of (length c.args.supply.now) c.args.quantities.now) refl

pub returns-then-index-least : goal.returns-then-index-least
returns-then-index-least c =
    let end = length c.args.quantities.now / length c.args.supply.now in
    let found = found-at c.args.supply.now c.split_at.result.0.now c.in-Some.index (sym c.place_within.ensures ∙ c.in-Some.is) in
    sym (too-low c.args.supply.now c.loop-place.place c.loop-place.least c.in-Some.index c.split_at.result.0.now (groups (end - (c.loop-place.place + 1)) (length c.args.supply.now) c.split_at.result.1.now) found c.if-index-least.true)
    ∙ split c.args.supply.now c.loop-place.rest.now c.split_at.result.0.now c.split_at.result.1.now c.loop-place.place end c.loop-place.least c.loop-place-test.true c.split_at.ensures.front c.split_at.ensures.back
    ∙ c.loop-place.invariant.faults
    ∙ fault_by_place-is c.args.supply.now 0 0 None (bundles_of (length c.args.supply.now) c.args.quantities.now) refl

pub overflow_add-least : goal.overflow_add-least
overflow_add-least c =
    let found = found-at c.args.supply.now c.split_at.result.0.now c.in-Some.index (sym c.place_within.ensures ∙ c.in-Some.is) in
    let small = found-small c.args.supply.now c.split_at.result.0.now c.in-Some.index found in
    omega (arith, small, c.requires.supply.small)

pub loop-place-preserved : goal.loop-place-preserved
loop-place-preserved c =
    let end = length c.args.quantities.now / length c.args.supply.now in
    let found = found-at c.args.supply.now c.split_at.result.0.now c.in-Some.index (sym c.place_within.ensures ∙ c.in-Some.is) in
    let small = found-small c.args.supply.now c.split_at.result.0.now c.in-Some.index found in
    record {
      left = ap length c.split_at.ensures.back ∙ length-drop (length c.args.supply.now) c.loop-place.rest.now ∙ left-next _ end c.loop-place.place (length c.args.supply.now) c.loop-place-test.true c.loop-place.invariant.left;
      faults = sym (goes-on c.args.supply.now c.loop-place.place c.loop-place.least c.in-Some.index c.split_at.result.0.now (groups (end - (c.loop-place.place + 1)) (length c.args.supply.now) c.split_at.result.1.now) found c.if-index-least.false)
          ∙ split c.args.supply.now c.loop-place.rest.now c.split_at.result.0.now c.split_at.result.1.now c.loop-place.place end c.loop-place.least c.loop-place-test.true c.split_at.ensures.front c.split_at.ensures.back
          ∙ c.loop-place.invariant.faults;
      reached = omega (arith, c.loop-place.invariant.reached, c.if-index-least.false);
      few = omega (arith, small, c.requires.supply.small);
    }

pub returns : goal.returns
returns c =
    let end = length c.args.quantities.now / length c.args.supply.now in
    let none : end - c.loop-place.place ≡ 0 = omega (arith, c.loop-place-test.false) in
    sym (none-left c.args.supply.now c.loop-place.place c.loop-place.least)
    ∙ ap (λ n. fault_by_place c.args.supply.now c.loop-place.place c.loop-place.least (groups n (length c.args.supply.now) c.loop-place.rest.now)) (sym none)
    ∙ c.loop-place.invariant.faults
    ∙ fault_by_place-is c.args.supply.now 0 0 None (bundles_of (length c.args.supply.now) c.args.quantities.now) refl
