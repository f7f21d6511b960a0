use Rattle.std.proofs.Common.{arith, ◌∙◌, refl, inl, inr, ◌≡◌, ◌+◌, ◌-◌, get_or}
use Rattle.std.proofs.lemmas.Bool.{iff_false, false≢true}
use Rattle.lot_base.specs.Goods.{one_more, one_less}
use Rattle.lot_base.proofs.Vec.{within_from_at, length-below}
use Rattle.overshoot.proofs.Moves.{alone, marked-both, for-more}
use Rattle.overshoot.proofs.exchanging.is_exchanged.Goals as goal

pub overflow_sub-less : goal.overflow_sub-less
overflow_sub-less c =
    let r = c.requires in
    let t = c.args.table.now in
    let p = c.args.pair.now in
    let o = alone t.goods p.x p.y c.args.good r.pair.in_x r.pair.in_y r.good r.more in
    let e : get_or t.strides c.args.good 0 ≡ _ = r.table.apart c.args.good r.good in
    omega (arith, o.room, r.pair.from_is)

pub overflow_add-more : goal.overflow_add-more
overflow_add-more c =
    let r = c.requires in
    let t = c.args.table.now in
    let p = c.args.pair.now in
    let o = alone t.goods p.x p.y c.args.good r.pair.in_x r.pair.in_y r.good r.more in
    let e : get_or t.strides c.args.good 0 ≡ _ = r.table.apart c.args.good r.good in
    omega (arith, o.more, o.more_in, r.pair.to_is, c.count-goods.ensures.supply.small)

pub are_marked-requires-clause-place : goal.are_marked-requires-clause-place
are_marked-requires-clause-place c =
    let r = c.requires in
    let t = c.args.table.now in
    let p = c.args.pair.now in
    let o = alone t.goods p.x p.y c.args.good r.pair.in_x r.pair.in_y r.good r.more in
    let e : get_or t.strides c.args.good 0 ≡ _ = r.table.apart c.args.good r.good in
    omega (arith, o.less, o.less_in, r.pair.from_is, r.table.marked.size)

pub are_marked-requires-clause-other : goal.are_marked-requires-clause-other
are_marked-requires-clause-other c =
    let r = c.requires in
    let t = c.args.table.now in
    let p = c.args.pair.now in
    let o = alone t.goods p.x p.y c.args.good r.pair.in_x r.pair.in_y r.good r.more in
    let e : get_or t.strides c.args.good 0 ≡ _ = r.table.apart c.args.good r.good in
    omega (arith, o.more, o.more_in, r.pair.to_is, r.table.marked.size)

pub returns-then-are_marked : goal.returns-then-are_marked
returns-then-are_marked c =
    let r = c.requires in
    let t = c.args.table.now in
    let p = c.args.pair.now in
    let k = c.args.good in
    let o = alone t.goods p.x p.y k r.pair.in_x r.pair.in_y r.good r.more in
    let e : get_or t.strides k 0 ≡ _ = r.table.apart k r.good in
    let m = marked-both t.goods t.demand.now t.marks.now (one_less p.x k) (one_more p.y k) _ _ r.table.marked o.in_x o.in_y
    (o.less ∙ (let f = r.pair.from_is in let g : _ - _ ≡ p.from - get_or t.strides k 0 = omega arith in g))
    (o.more ∙ (let f = r.pair.to_is in let g : _ + _ ≡ p.to + get_or t.strides k 0 = omega arith in g)) in
    ((λ h i. inl (m.0 (c.are_marked.ensures.0 c.if-are_marked.true))), (λ q. refl))

pub returns-then-goes_for : goal.returns-then-goes_for
returns-then-goes_for c = ((λ h i. let t = c.goes_for.ensures.0 c.if-goes_for.true in inr (c.loop-other.other, t.0, t.1, t.2)), (λ p. refl))

pub loop-other-preserved : goal.loop-other-preserved
loop-other-preserved c =
    let p = c.args.pair.now in
    for-more c.args.table.now.demand.now p.x p.y c.args.good c.loop-other.other c.loop-other.invariant (iff_false c.goes_for.ensures c.if-goes_for.false)

pub returns : goal.returns
returns c =
    let r = c.requires in
    let t = c.args.table.now in
    let p = c.args.pair.now in
    let k = c.args.good in
    let o = alone t.goods p.x p.y k r.pair.in_x r.pair.in_y r.good r.more in
    let e : get_or t.strides k 0 ≡ _ = r.table.apart k r.good in
    let m = marked-both t.goods t.demand.now t.marks.now (one_less p.x k) (one_more p.y k) _ _ r.table.marked o.in_x o.in_y
    (o.less ∙ (let f = r.pair.from_is in let g : _ - _ ≡ p.from - get_or t.strides k 0 = omega arith in g))
    (o.more ∙ (let f = r.pair.to_is in let g : _ + _ ≡ p.to + get_or t.strides k 0 = omega arith in g)) in (
      (λ h. absurd (false≢true h)),
      (λ q. elim (q r.more) [
        | inl i ↦ absurd (iff_false c.are_marked.ensures c.if-are_marked.false (m.1 i))
        | inr s ↦
            let i = s.1 in
            let w = within_from_at p.y s.0 (omega arith) in
            let len = length-below p.y t.goods r.pair.in_y in
            absurd (c.loop-other.invariant s.0 (omega (arith, c.loop-other-test.false, c.count-other-end.ensures.length)) (i, s.2, s.3))
      ]),
    )
