use Rattle.std.proofs.Common.{◌∙◌, ap, arith}
use Rattle.valuation.specs.Forms.{marginal_value}
use Rattle.valuation.proofs.Mapped.{map-next, map-all}
use Rattle.valuation.proofs.forms.marginal_values.Goals as goal

pub loop-index-preserved : goal.loop-index-preserved
loop-index-preserved c =
    let entries = c.args.entries.now in
    map-next (marginal_value c.args.goods.now entries) c.args.goods.now c.loop-index.index c.marginal_value.result c.loop-index.values.items c.push.new.self.items c.bundle-x.result c.bundle-x.ensures.place
    (c.marginal_value.ensures
    ∙ ap (λ s. marginal_value s entries c.as_slice.result.now) c.as_slice-supply.ensures
    ∙ ap (marginal_value c.args.goods.now entries) c.as_slice.ensures.value)
    c.loop-index.invariant c.in_ok-push.ensures.items

pub returns : goal.returns
returns c =
    map-all (marginal_value c.args.goods.now c.args.entries.now) c.args.goods.now c.loop-index.index c.loop-index.values.items (let b = c.box_size-index-end.ensures in let t = c.loop-index-test.false in omega (arith, b, t)) c.loop-index.invariant
