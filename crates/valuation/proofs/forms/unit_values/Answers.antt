use Rattle.std.proofs.Common.{◌∙◌, ap, arith}
use Rattle.valuation.specs.Forms.{unit_value}
use Rattle.valuation.proofs.Mapped.{map-next, map-all}
use Rattle.valuation.proofs.forms.unit_values.Goals as goal

pub loop-index-preserved : goal.loop-index-preserved
loop-index-preserved c =
    map-next (unit_value c.args.values.now) c.args.goods.now c.loop-index.index c.unit_value.result c.loop-index.worth.items c.push.new.self.items c.bundle-x.result c.bundle-x.ensures.place
    (c.unit_value.ensures ∙ ap (unit_value c.args.values.now) c.as_slice.ensures.value) c.loop-index.invariant c.in_ok-push.ensures.items

pub returns : goal.returns
returns c =
    map-all (unit_value c.args.values.now) c.args.goods.now c.loop-index.index c.loop-index.worth.items (let b = c.box_size-index-end.ensures in let t = c.loop-index-test.false in omega (arith, b, t)) c.loop-index.invariant
