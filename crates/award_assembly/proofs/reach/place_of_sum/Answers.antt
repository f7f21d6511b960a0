use Rattle.std.proofs.Common.{◌≡◌, ◌+◌, ◌∙◌, ap, arith}
use Rattle.lot_base.specs.Goods.{plus}
use Rattle.lot_base.specs.Box.{index_of, bundle_at}
use Rattle.lot_base.proofs.Index.{index_of-small, bundle_at-index_of}
use Rattle.lot_base.proofs.Vec.{length-below}
use Rattle.award_assembly.proofs.Adding.{index_of-plus}
use Rattle.award_assembly.proofs.reach.place_of_sum.Goals as goal

pub returns-clause-place : goal.returns-clause-place
returns-clause-place c =
    let e = index_of-plus c.args.goods.now c.args.x.now c.args.y.now (length-below c.args.x.now c.args.goods.now c.requires.x) (length-below c.args.y.now c.args.goods.now c.requires.y) in
    omega (arith, e, c.index.ensures.digits, c.index-2.ensures.digits)

pub returns-clause-below : goal.returns-clause-below
returns-clause-below c =
    let e = index_of-plus c.args.goods.now c.args.x.now c.args.y.now (length-below c.args.x.now c.args.goods.now c.requires.x) (length-below c.args.y.now c.args.goods.now c.requires.y) in
    let small = index_of-small c.args.goods.now (plus c.args.x.now c.args.y.now) c.requires.sum in
    omega (arith, e, small, c.index.ensures.digits, c.index-2.ensures.digits)

pub returns-clause-inverse : goal.returns-clause-inverse
returns-clause-inverse c =
    let e = index_of-plus c.args.goods.now c.args.x.now c.args.y.now (length-below c.args.x.now c.args.goods.now c.requires.x) (length-below c.args.y.now c.args.goods.now c.requires.y) in
    let f : c.index.result + c.index-2.result ≡ index_of c.args.goods.now (plus c.args.x.now c.args.y.now) = omega (arith, e, c.index.ensures.digits, c.index-2.ensures.digits) in
    ap (bundle_at c.args.goods.now) f ∙ bundle_at-index_of c.args.goods.now (plus c.args.x.now c.args.y.now) c.requires.sum

pub overflow_add-result : goal.overflow_add-result
overflow_add-result c =
    let e = index_of-plus c.args.goods.now c.args.x.now c.args.y.now (length-below c.args.x.now c.args.goods.now c.requires.x) (length-below c.args.y.now c.args.goods.now c.requires.y) in
    let small = index_of-small c.args.goods.now (plus c.args.x.now c.args.y.now) c.requires.sum in
    omega (arith, e, small, c.index.ensures.digits, c.index-2.ensures.digits, c.count-goods.ensures.supply.small)
