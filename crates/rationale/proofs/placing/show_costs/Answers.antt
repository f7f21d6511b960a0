use Rattle.std.proofs.Common.{◌+◌, ◌-◌, ◌*◌, ◌/◌, ◌%◌, ◌<◌, ◌∙◌, ◌≡◌, length-set, ℕ, List, ap, length, slice_index, drop, arith, subst}
use Rattle.std.proofs.lemmas.List.{get_or-set_same}
use Rattle.lot_base.specs.Goods.{box_size}
use Rattle.lot_base.specs.Strides.{AreStrides}
use Rattle.lot_base.proofs.Index.{box_size-above_0}
use Rattle.rationale.proofs.Blocks.{AreCostsFrom, stride-box, box_at, box-drop_small, costs-next, costs-start, costs-low}
use Rattle.rationale.proofs.placing.show_costs.Goals as goal

-- the size of the box after a good
size_at : (s strides : List ℕ) (count step : ℕ) → AreStrides s strides → count ≡ length s → step < count → slice_index strides (count - 1 - step) ≡ box_size (drop (length s - (step + 1) + 1) s)
size_at s strides count step are long inside =
    let k = length s - (step + 1) in
    let e : count - 1 - step ≡ k = omega arith in
    ap (slice_index strides) e ∙ are k (omega arith) ∙ stride-box s k (omega arith)

pub bounds-costs-0 : goal.bounds-costs-0
bounds-costs-0 c = let a = box_size-above_0 c.args.goods.now in let b = c.requires.long in omega arith

pub loop-step-init : goal.loop-step-init
loop-step-init c =
    let some = box_size-above_0 c.args.goods.now in
    let long = c.requires.long in
    record {
      long = length-set c.args.costs.now 0 0 ∙ long;
      costs_are = costs-start c.args.goods.now c.args.prices.now _ (length c.args.goods.now - 0) (omega arith) (get_or-set_same c.args.costs.now 0 0 0 (omega arith));
    }

pub spread-requires-clause-some : goal.spread-requires-clause-some
spread-requires-clause-some c =
    let s = c.args.goods.now in
    let a = size_at s c.strides-strides.result c.count.result c.loop-step.step c.strides-strides.ensures c.count.ensures.length (let t = c.loop-step-test.true in let m = c.count-step-end.ensures.length in let n = c.count.ensures.length in omega arith) in
    let b = box_size-above_0 (drop (length s - (c.loop-step.step + 1) + 1) s) in
    omega arith

pub spread-requires-clause-fits : goal.spread-requires-clause-fits
spread-requires-clause-fits c =
    let s = c.args.goods.now in
    let t = c.loop-step-test.true in
    let m = c.count-step-end.ensures.length in
    let n = c.count.ensures.length in
    let k = length s - (c.loop-step.step + 1) in
    let good : c.count.result - 1 - c.loop-step.step ≡ k = omega arith in
    let a = size_at s c.strides-strides.result c.count.result c.loop-step.step c.strides-strides.ensures n (omega arith) in
    let b = box_at s k c.supply.result (omega arith) (c.supply.ensures ∙ ap (slice_index s) good) in
    let d = ap (λ (z : ℕ). (c.supply.result + 1) * z) a in
    let e = box-drop_small s k in
    let l = c.loop-step.invariant.long in
    omega arith

pub spread-requires-clause-small : goal.spread-requires-clause-small
spread-requires-clause-small c = λ i inside.
    let s = c.args.goods.now in
    let p = c.args.prices.now in
    let t = c.loop-step-test.true in
    let m = c.count-step-end.ensures.length in
    let n = c.count.ensures.length in
    let k = length s - (c.loop-step.step + 1) in
    let a = size_at s c.strides-strides.result c.count.result c.loop-step.step c.strides-strides.ensures n (omega arith) in
    let e : length s - c.loop-step.step ≡ k + 1 = omega arith in
    let here : i < box_size (drop (k + 1) s) = omega arith in
    let costs = subst (λ (j : ℕ). AreCostsFrom s p j c.loop-step.costs) e c.loop-step.invariant.costs_are in
    let b = costs i here in
    let d = costs-low s p (k + 1) i c.requires.low c.count.ensures.supply.small here in
    omega arith

pub loop-step-preserved : goal.loop-step-preserved
loop-step-preserved c =
    let s = c.args.goods.now in
    let p = c.args.prices.now in
    let t = c.loop-step-test.true in
    let m = c.count-step-end.ensures.length in
    let n = c.count.ensures.length in
    let k = length s - (c.loop-step.step + 1) in
    let good : c.count.result - 1 - c.loop-step.step ≡ k = omega arith in
    let a = size_at s c.strides-strides.result c.count.result c.loop-step.step c.strides-strides.ensures n (omega arith) in
    let e : length s - c.loop-step.step ≡ k + 1 = omega arith in
    let costs = subst (λ (j : ℕ). AreCostsFrom s p j c.loop-step.costs) e c.loop-step.invariant.costs_are in
    let spread = subst (λ (z : ℕ). (i : ℕ) → i < (c.supply.result + 1) * z → slice_index c.spread.new.costs i ≡ slice_index c.loop-step.costs (i % z) + (i / z) * c.get.result) a c.spread.ensures.spread in
    record {
      long = c.spread.ensures.long ∙ c.loop-step.invariant.long;
      costs_are = costs-next s p c.loop-step.costs c.spread.new.costs k c.supply.result c.get.result (omega arith) (c.supply.ensures ∙ ap (slice_index s) good) (c.get.ensures ∙ ap (slice_index p) good) spread costs;
    }

pub returns-clause-costs : goal.returns-clause-costs
returns-clause-costs c =
    let s = c.args.goods.now in
    let m = c.count-step-end.ensures.length in
    let t = c.loop-step-test.false in
    let e : length s - c.loop-step.step ≡ 0 = omega arith in
    subst (λ (j : ℕ). AreCostsFrom s c.args.prices.now j c.loop-step.costs) e c.loop-step.invariant.costs_are

pub returns-clause-small : goal.returns-clause-small
returns-clause-small c = λ k inside.
    let s = c.args.goods.now in
    let m = c.count-step-end.ensures.length in
    let t = c.loop-step-test.false in
    let e : length s - c.loop-step.step ≡ 0 = omega arith in
    let a = subst (λ (j : ℕ). AreCostsFrom s c.args.prices.now j c.loop-step.costs) e c.loop-step.invariant.costs_are in
    let b = a k inside in
    let d = costs-low s c.args.prices.now 0 k c.requires.low c.count-step-end.ensures.supply.small inside in
    omega arith
