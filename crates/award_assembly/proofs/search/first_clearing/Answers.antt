use Rattle.std.proofs.Common.{Some, sym, ◌∙◌, ap, arith}
use Rattle.lot_base.proofs.Index.{box_size-above_0}
use Rattle.award_assembly.proofs.Walking.{reaches-all, way-start, way-none, way-leads, way-goes_on, way-stops, way-end}
use Rattle.award_assembly.proofs.search.first_clearing.Goals as goal

pub has-requires : goal.has-requires
has-requires c =
    let s = c.args.goods.now in
    let reach = reaches-all s c.args.opening.now c.args.prices.now c.args.demands.now c.in_ok-reaches.reaches.items c.index.result.now c.in_ok-reaches.ensures c.index.ensures in
    omega (arith, reach.size, box_size-above_0 s)

pub returns-then-not-has : goal.returns-then-not-has
returns-then-not-has c =
    let s = c.args.goods.now in
    let reach = reaches-all s c.args.opening.now c.args.prices.now c.args.demands.now c.in_ok-reaches.reaches.items c.index.result.now c.in_ok-reaches.ensures c.index.ensures in
    sym (way-none s c.args.opening.now c.args.prices.now c.args.demands.now (sym (reach.each 0 (box_size-above_0 s)) ∙ sym c.has.ensures ∙ c.if-not-has.true))

pub loop-place-init : goal.loop-place-init
loop-place-init c =
    let s = c.args.goods.now in
    let reach = reaches-all s c.args.opening.now c.args.prices.now c.args.demands.now c.in_ok-reaches.reaches.items c.index.result.now c.in_ok-reaches.ensures c.index.ensures in
    rw c.new-bundles.ensures.items
    (way-start s c.args.opening.now c.args.prices.now c.args.demands.now c.bundle-taken.result c.bundle-taken.ensures.digits c.bundle-taken.ensures.within
    (sym (reach.each 0 (box_size-above_0 s)) ∙ sym c.has.ensures ∙ c.if-not-has.false))

pub sum_of-taken-requires-clause-y : goal.sum_of-taken-requires-clause-y
sum_of-taken-requires-clause-y c =
    (way-leads c.args.goods.now c.args.opening.now c.args.prices.now c.args.demands.now c.in_ok-reaches.reaches.items c.loop-place.place c.index-behind.result.now c.index-demands-place.result c.loop-place.taken
    c.in-Some.bundle c.requires.demands c.in_ok-reaches.ensures (omega arith) c.index-behind.ensures c.index-demands-place.is c.loop-place.invariant.within c.in-Some.ensures).bundle

pub sum_of-taken-requires-clause-sum : goal.sum_of-taken-requires-clause-sum
sum_of-taken-requires-clause-sum c =
    (way-leads c.args.goods.now c.args.opening.now c.args.prices.now c.args.demands.now c.in_ok-reaches.reaches.items c.loop-place.place c.index-behind.result.now c.index-demands-place.result c.loop-place.taken
    c.in-Some.bundle c.requires.demands c.in_ok-reaches.ensures (omega arith) c.index-behind.ensures c.index-demands-place.is c.loop-place.invariant.within c.in-Some.ensures).within

pub loop-place-preserved : goal.loop-place-preserved
loop-place-preserved c =
    rw c.in_ok-push-in-Some.ensures.items
    (way-goes_on c.args.goods.now c.args.opening.now c.args.prices.now c.args.demands.now c.in_ok-reaches.reaches.items c.loop-place.place c.index-behind.result.now c.index-demands-place.result c.loop-place.taken
    c.in-Some.bundle c.sum_of-taken.result c.loop-place.bundles.items c.requires.demands c.in_ok-reaches.ensures (omega arith) c.index-behind.ensures c.index-demands-place.is c.loop-place.invariant c.in-Some.ensures
    c.sum_of-taken.ensures)

pub returns-in-None : goal.returns-in-None
returns-in-None c =
    sym
    (way-stops c.args.goods.now c.args.opening.now c.args.prices.now c.args.demands.now c.in_ok-reaches.reaches.items c.loop-place.place c.index-behind.result.now c.index-demands-place.result c.loop-place.taken
    c.loop-place.bundles.items c.requires.demands c.in_ok-reaches.ensures (omega arith) c.index-behind.ensures c.index-demands-place.is c.loop-place.invariant c.in-None.ensures)

pub returns : goal.returns
returns c =
    let s = c.args.goods.now in
    ap Some c.from_vec.ensures
    ∙ sym (way-end s c.args.opening.now c.args.prices.now c.args.demands.now c.loop-place.place c.loop-place.taken c.loop-place.bundles.items c.loop-place.invariant (omega arith))
