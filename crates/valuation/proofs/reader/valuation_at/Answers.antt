use Rattle.std.proofs.Common.{◌∙◌, ap, arith, length, refl}
use Rattle.std.specs.Prelude.{slice_index}
use Rattle.lot_base.proofs.Index.{box_size-above_0}
use Rattle.toml.specs.View.{view, table_view}
use Rattle.valuation.proofs.FileRead.{form-whole, valuation-read}
use Rattle.valuation.proofs.Trees.{gives-same}
use Rattle.valuation.proofs.reader.valuation_at.Goals as goal

pub limited-requires-clause-some : goal.limited-requires-clause-some
limited-requires-clause-some c =
    let w = (form-whole c.in_ok-form.form.now c.args.bidder _ c.args.goods.now _ c.in_ok-values.values.items c.in_ok-values.ensures).whole in
    let l = ap length c.deref.ensures.value in
    let some = box_size-above_0 c.args.goods.now in
    omega (arith, w, l, some)

pub limited-requires-clause-few : goal.limited-requires-clause-few
limited-requires-clause-few c =
    let w = (form-whole c.in_ok-form.form.now c.args.bidder _ c.args.goods.now _ c.in_ok-values.values.items c.in_ok-values.ensures).whole in
    let l = ap length c.deref.ensures.value in
    let few = c.count-count.ensures.supply.small in
    omega (arith, w, l, few)

pub limited-requires-clause-empty : goal.limited-requires-clause-empty
limited-requires-clause-empty c =
    let w = (form-whole c.in_ok-form.form.now c.args.bidder _ c.args.goods.now _ c.in_ok-values.values.items c.in_ok-values.ensures).empty in
    ap (λ v. slice_index v 0) c.deref.ensures.value ∙ w

pub returns : goal.returns
returns c =
    gives-same (λ v. v) c.limited.result _ _
    (valuation-read c.args.ceiling c.args.bidder c.from-number.result _ c.args.goods.now (view c.args.element.now) (table_view c.in_ok-table.table.now) c.in_ok-form.form.now c.in_ok-values.values.items c.deref.result.now c.from-number.ensures refl c.deref.ensures.value
    c.in_ok-table.ensures c.in_ok-form.ensures c.in_ok-values.ensures) c.limited.ensures
