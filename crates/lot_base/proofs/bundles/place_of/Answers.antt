use Rattle.std.proofs.Common.{◌≡◌, ◌∷◌, [], length, length-append, refl, arith}
use Rattle.std.specs.Prelude.{min}
use Rattle.std.proofs.lemmas.Slice.Zip.{zip_turn, zip_end}
use Rattle.lot_base.proofs.Digits.{StandAt, turn, at_end}
use Rattle.lot_base.proofs.bundles.place_of.Goals as goal

pub overflow_mul-place : goal.overflow_mul-place
overflow_mul-place c =
    let stand : StandAt c.args.supply.now c.args.quantities.now (length c.loop-units.yielded) c.in-Some.units.now c.in-Some.quantity.now =
    zip_turn c.args.supply.now c.args.quantities.now c.loop-units.yielded c.into_iter-units-iterator.result c.loop-units.units-iterator c.next.new.self c.next.result (cc) (cc) c.loop-units.yielded_by (c.in-Some.units, c.in-Some.quantity) c.in-Some.is c.next.ensures.steps in
    let small = (turn _ _ _ _ _ _ _ c.requires.within c.requires.small c.loop-units.invariant refl stand).small in
    omega arith

pub overflow_add-place-in-loop-units : goal.overflow_add-place-in-loop-units
overflow_add-place-in-loop-units c =
    let stand : StandAt c.args.supply.now c.args.quantities.now (length c.loop-units.yielded) c.in-Some.units.now c.in-Some.quantity.now =
    zip_turn c.args.supply.now c.args.quantities.now c.loop-units.yielded c.into_iter-units-iterator.result c.loop-units.units-iterator c.next.new.self c.next.result (cc) (cc) c.loop-units.yielded_by (c.in-Some.units, c.in-Some.quantity) c.in-Some.is c.next.ensures.steps in
    let small = (turn _ _ _ _ _ _ _ c.requires.within c.requires.small c.loop-units.invariant refl stand).small in
    omega arith

pub loop-units-preserved : goal.loop-units-preserved
loop-units-preserved c =
    let stand : StandAt c.args.supply.now c.args.quantities.now (length c.loop-units.yielded) c.in-Some.units.now c.in-Some.quantity.now =
    zip_turn c.args.supply.now c.args.quantities.now c.loop-units.yielded c.into_iter-units-iterator.result c.loop-units.units-iterator c.next.new.self c.next.result (cc) (cc) c.loop-units.yielded_by (c.in-Some.units, c.in-Some.quantity) c.in-Some.is c.next.ensures.steps in
    (turn _ _ _ _ _ _ _ c.requires.within c.requires.small c.loop-units.invariant (length-append c.loop-units.yielded ((c.in-Some.units, c.in-Some.quantity) ∷ [])) stand).so_far

pub returns : goal.returns
returns c =
    let turns : length c.loop-units.yielded ≡ min (length c.args.supply.now) (length c.args.quantities.now) =
    zip_end c.args.supply.now c.args.quantities.now c.loop-units.yielded c.into_iter-units-iterator.result c.loop-units.units-iterator c.next.new.self c.next.result (cc) (cc) c.loop-units.yielded_by c.in-None.is c.next.ensures.steps in
    at_end c.args.supply.now c.args.quantities.now (length c.loop-units.yielded) c.loop-units.place c.requires.within turns c.loop-units.invariant
