use Rattle.std.proofs.Common.{◌<◌, ◌∙◌, ap, sym, arith, length, subst, List, ℕ}
use Rattle.std.specs.Prelude.{Ok}
use Rattle.lot_base.specs.Goods.{box_size}
use Rattle.valuation.specs.Carried.{AreCosts}
use Rattle.valuation.specs.Forms.{capped_value}
use Rattle.valuation.proofs.Capped.{before-steps, capped-next}
use Rattle.valuation.proofs.Mapped.{map-next, map-all, map-length}
use Rattle.valuation.proofs.forms.capped_values.Goals as goal

pub capped_at-value-requires-clause-before : goal.capped_at-value-requires-clause-before
capped_at-value-requires-clause-before c =
    let s = c.args.goods.now in
    let strides = c.strides-steps.ensures in
    before-steps s c.strides-steps.result c.as_slice.result.now c.loop-index.index (c.as_slice.ensures.value ∙ c.bundle-x.ensures.digits)
    (let b = c.box_size-index-end.ensures in let t = c.loop-index-test.true in omega (arith, b, t)) strides

pub capped_at-value-requires-clause-worth : goal.capped_at-value-requires-clause-worth
capped_at-value-requires-clause-worth c =
    ap length (c.deref-in-loop-index.ensures.value ∙ c.loop-index.invariant)
    ∙ map-length (capped_value c.args.values.now c.args.cap) c.args.goods.now c.loop-index.index (let b = c.box_size-index-end.ensures in let t = c.loop-index-test.true in omega (arith, b, t))

pub loop-index-preserved : goal.loop-index-preserved
loop-index-preserved c =
    let s = c.args.goods.now in
    let v = c.args.values.now in
    let i = c.loop-index.index in
    let inside : i < box_size s = (let b = c.box_size-index-end.ensures in let t = c.loop-index-test.true in omega (arith, b, t)) in
    let strides = c.strides-steps.ensures in
    let Q : List ℕ → Type 0 = λ z. AreCosts s v z in
    let priced = subst Q (sym c.deref.ensures.value) c.in_ok-costs.ensures in
    let is = capped-next s c.strides-steps.result v c.deref.result.now c.deref-in-loop-index.result.now c.as_slice.result.now i c.args.cap c.capped_at-value.result
    (c.as_slice.ensures.value ∙ c.bundle-x.ensures.digits) inside strides priced (c.deref-in-loop-index.ensures.value ∙ c.loop-index.invariant) c.capped_at-value.ensures.all c.capped_at-value.ensures.less in
    map-next (capped_value v c.args.cap) s i c.capped_at-value.result c.loop-index.worth.items c.push.new.self.items c.bundle-x.result c.bundle-x.ensures.place
    (is ∙ ap (capped_value v c.args.cap) (sym c.bundle-x.ensures.digits)) c.loop-index.invariant c.in_ok-push.ensures.items

pub returns : goal.returns
returns c =
    let all = map-all (capped_value c.args.values.now c.args.cap) c.args.goods.now c.loop-index.index c.loop-index.worth.items (let b = c.box_size-index-end.ensures in let t = c.loop-index-test.false in omega (arith, b, t)) c.loop-index.invariant in
    ap Ok (sym all)
