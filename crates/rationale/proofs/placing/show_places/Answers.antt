use Rattle.std.proofs.Common.{arith}
use Rattle.lot_base.proofs.Index.{index_of-small}
use Rattle.rationale.proofs.Wanted.{few_bundles, bundle_in, shown_next}
use Rattle.rationale.proofs.placing.show_places.Goals as goal

pub overflow_cast-places : goal.overflow_cast-places
overflow_cast-places c =
    let small = index_of-small c.args.goods.now c.get.result (bundle_in c.args.goods.now c.args.demand.now c.loop-i.i c.get.result c.requires.demand.in_box c.get.ensures) in
    let digits = c.index.ensures.digits in
    let box = c.count-goods.ensures.supply.small in
    omega arith

pub bounds-places-i : goal.bounds-places-i
bounds-places-i c =
    let a = c.loop-i-test.true in
    let b = few_bundles c.args.goods.now c.args.demand.now c.requires.demand in
    let d = c.len-i-end.ensures.value in
    let e = c.loop-i.invariant.long in
    omega arith

pub loop-i-preserved : goal.loop-i-preserved
loop-i-preserved c =
    shown_next c.args.goods.now c.args.demand.now c.loop-i.places c.loop-i.i c.index.result c.get.result c.requires.demand c.get.ensures c.index.ensures.digits c.index.ensures.inverse c.loop-i.invariant

pub returns-clause-few : goal.returns-clause-few
returns-clause-few c = few_bundles c.args.goods.now c.args.demand.now c.requires.demand
