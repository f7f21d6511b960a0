use Rattle.std.proofs.Common.{arith, ◌∙◌, ◌≡◌, ◌+◌, ◌-◌, ◌<◌, get_or}
use Rattle.lot_base.specs.Goods.{at, one_more, one_less}
use Rattle.overshoot.proofs.Moves.{alone, for_other, marked-both}
use Rattle.overshoot.proofs.exchanging.goes_for.Goals as goal

pub overflow_sub-less : goal.overflow_sub-less
overflow_sub-less c =
    let r = c.requires in
    let t = c.args.table.now in
    let p = c.args.pair.now in
    let a = alone t.goods p.x p.y c.args.good r.pair.in_x r.pair.in_y r.good r.more in
    let d : get_or t.strides c.args.good 0 ≡ _ = r.table.apart c.args.good r.good in
    omega (arith, a.room, r.pair.from_is)

pub overflow_add-more : goal.overflow_add-more
overflow_add-more c =
    let r = c.requires in
    let t = c.args.table.now in
    let p = c.args.pair.now in
    let a = alone t.goods p.x p.y c.args.good r.pair.in_x r.pair.in_y r.good r.more in
    let d : get_or t.strides c.args.good 0 ≡ _ = r.table.apart c.args.good r.good in
    omega (arith, a.more, a.more_in, r.pair.to_is, c.count-goods.ensures.supply.small)

pub overflow_add-less : goal.overflow_add-less
overflow_add-less c =
    let r = c.requires in
    let t = c.args.table.now in
    let p = c.args.pair.now in
    let lt : at p.x c.args.other < at p.y c.args.other = omega (arith, c.if-quantity.false, c.quantity.ensures, c.quantity-2.ensures) in
    let a = alone t.goods p.x p.y c.args.good r.pair.in_x r.pair.in_y r.good r.more in
    let o = for_other t.goods p.x p.y c.args.good c.args.other r.pair.in_x r.pair.in_y r.other r.more lt in
    let d : get_or t.strides c.args.good 0 ≡ _ = r.table.apart c.args.good r.good in
    let e : get_or t.strides c.args.other 0 ≡ _ = r.table.apart c.args.other r.other in
    omega (arith, a.less, o.less, o.less_in, r.pair.from_is, c.count-goods.ensures.supply.small)

pub overflow_sub-more : goal.overflow_sub-more
overflow_sub-more c =
    let r = c.requires in
    let t = c.args.table.now in
    let p = c.args.pair.now in
    let lt : at p.x c.args.other < at p.y c.args.other = omega (arith, c.if-quantity.false, c.quantity.ensures, c.quantity-2.ensures) in
    let a = alone t.goods p.x p.y c.args.good r.pair.in_x r.pair.in_y r.good r.more in
    let o = for_other t.goods p.x p.y c.args.good c.args.other r.pair.in_x r.pair.in_y r.other r.more lt in
    let d : get_or t.strides c.args.good 0 ≡ _ = r.table.apart c.args.good r.good in
    let e : get_or t.strides c.args.other 0 ≡ _ = r.table.apart c.args.other r.other in
    omega (arith, a.more, o.room, r.pair.to_is)

pub are_marked-requires-clause-place : goal.are_marked-requires-clause-place
are_marked-requires-clause-place c =
    let r = c.requires in
    let t = c.args.table.now in
    let p = c.args.pair.now in
    let lt : at p.x c.args.other < at p.y c.args.other = omega (arith, c.if-quantity.false, c.quantity.ensures, c.quantity-2.ensures) in
    let a = alone t.goods p.x p.y c.args.good r.pair.in_x r.pair.in_y r.good r.more in
    let o = for_other t.goods p.x p.y c.args.good c.args.other r.pair.in_x r.pair.in_y r.other r.more lt in
    let d : get_or t.strides c.args.good 0 ≡ _ = r.table.apart c.args.good r.good in
    let e : get_or t.strides c.args.other 0 ≡ _ = r.table.apart c.args.other r.other in
    omega (arith, a.less, o.less, o.less_in, r.pair.from_is, r.table.marked.size)

pub are_marked-requires-clause-other : goal.are_marked-requires-clause-other
are_marked-requires-clause-other c =
    let r = c.requires in
    let t = c.args.table.now in
    let p = c.args.pair.now in
    let lt : at p.x c.args.other < at p.y c.args.other = omega (arith, c.if-quantity.false, c.quantity.ensures, c.quantity-2.ensures) in
    let a = alone t.goods p.x p.y c.args.good r.pair.in_x r.pair.in_y r.good r.more in
    let o = for_other t.goods p.x p.y c.args.good c.args.other r.pair.in_x r.pair.in_y r.other r.more lt in
    let d : get_or t.strides c.args.good 0 ≡ _ = r.table.apart c.args.good r.good in
    let e : get_or t.strides c.args.other 0 ≡ _ = r.table.apart c.args.other r.other in
    omega (arith, a.more, o.more, o.more_in, r.pair.to_is, r.table.marked.size)

pub returns : goal.returns
returns c =
    let r = c.requires in
    let t = c.args.table.now in
    let p = c.args.pair.now in
    let k = c.args.good in
    let l = c.args.other in
    let lt : at p.x l < at p.y l = omega (arith, c.if-quantity.false, c.quantity.ensures, c.quantity-2.ensures) in
    let a = alone t.goods p.x p.y k r.pair.in_x r.pair.in_y r.good r.more in
    let o = for_other t.goods p.x p.y k l r.pair.in_x r.pair.in_y r.other r.more lt in
    let d : get_or t.strides k 0 ≡ _ = r.table.apart k r.good in
    let e : get_or t.strides l 0 ≡ _ = r.table.apart l r.other in
    let m = marked-both t.goods t.demand.now t.marks.now (one_more (one_less p.x k) l) (one_less (one_more p.y k) l) _ _ r.table.marked o.in_x o.in_y
    (o.less ∙ (let f = a.less in let h = r.pair.from_is in let g : _ + _ ≡ p.from - get_or t.strides k 0 + get_or t.strides l 0 = omega arith in g))
    (o.more ∙ (let f = a.more in let h = r.pair.to_is in let g : _ - _ ≡ p.to + get_or t.strides k 0 - get_or t.strides l 0 = omega arith in g)) in
    ((λ h. let i = m.0 (c.are_marked.ensures.0 h) in (lt, i.0, i.1)), (λ q. c.are_marked.ensures.1 (m.1 (q.1, q.2))))
