use Rattle.std.proofs.Common.{◌≡◌, ◌+◌, ◌-◌, ◌++◌, [], ◌∷◌, ◌∙◌, ap, subst, ℕ, drop, length, arith, slice_index}
use Rattle.lot_base.proofs.Index.{box_size-above_0}
use Rattle.valuation.proofs.Spread.{AreCostsFrom, costs-start, costs-next, costs-all, costs-few, costs-low}
use Rattle.valuation.proofs.costs.costs_at.Goals as goal

pub loop-step-init : goal.loop-step-init
loop-step-init c =
    costs-start c.args.goods.now c.args.prices.now _ (length c.args.goods.now - 0) (omega arith) (c.in_ok-push.ensures.items ∙ ap (λ xs. xs ++ 0 ∷ []) c.in_ok-costs.ensures.items)

pub spread-requires-clause-some : goal.spread-requires-clause-some
spread-requires-clause-some c =
    let w = c.loop-step.invariant.whole in
    let s = box_size-above_0 (drop (length c.args.goods.now - c.loop-step.step) c.args.goods.now) in
    omega (arith, w, s)

pub spread-requires-clause-few : goal.spread-requires-clause-few
spread-requires-clause-few c =
    let s = c.args.goods.now in
    let n = c.count-step-end.ensures.length in
    let m = c.count.ensures.length in
    let test = c.loop-step-test.true in
    let k = length s - c.loop-step.step in
    costs-few s c.loop-step.costs.items (length s - (c.loop-step.step + 1)) k c.supply.result (omega arith) (omega arith) (c.supply.ensures ∙ ap (slice_index s) (omega arith)) c.count-step-end.ensures.supply.small c.loop-step.invariant.whole

pub spread-requires-clause-small : goal.spread-requires-clause-small
spread-requires-clause-small c =
    costs-low (length c.args.goods.now) (length c.args.goods.now - c.loop-step.step) c.loop-step.costs.items c.count-step-end.ensures.supply.few_goods c.loop-step.invariant.small

pub loop-step-preserved : goal.loop-step-preserved
loop-step-preserved c =
    let s = c.args.goods.now in
    let p = c.args.prices.now in
    let n = c.count-step-end.ensures.length in
    let m = c.count.ensures.length in
    let test = c.loop-step-test.true in
    let k = length s - (c.loop-step.step + 1) in
    let P : ℕ → Type 0 = λ j. AreCostsFrom s p j c.loop-step.costs.items in
    let e : length s - c.loop-step.step ≡ k + 1 = omega arith in
    costs-next s p c.loop-step.costs.items c.spread.new.costs.items k c.supply.result c.price_at.result (omega arith) (c.supply.ensures ∙ ap (slice_index s) (omega arith)) (c.price_at.ensures ∙ ap (slice_index p) (omega arith))
    c.count-step-end.ensures.supply.small (omega arith) c.in_ok-spread.ensures (subst P e c.loop-step.invariant)

pub returns : goal.returns
returns c =
    let s = c.args.goods.now in
    let n = c.count-step-end.ensures.length in
    let test = c.loop-step-test.false in
    let P : ℕ → Type 0 = λ j. AreCostsFrom s c.args.prices.now j c.loop-step.costs.items in
    let e : length s - c.loop-step.step ≡ 0 = omega arith in
    costs-all s c.args.prices.now c.loop-step.costs.items c.count-step-end.ensures.supply.few_goods (subst P e c.loop-step.invariant)
