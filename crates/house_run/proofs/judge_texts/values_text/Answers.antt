use Rattle.std.proofs.Common.{◌∙◌, ◌++◌, ap, arith, refl}
use Rattle.lot_base.specs.Box.{box}
use Rattle.lot_base.specs.Goods.{box_size}
use Rattle.house_run.proofs.Judging.{values-all, values-next}
use Rattle.house_run.proofs.judge_texts.values_text.Goals as goal

pub loop-index-preserved : goal.loop-index-preserved
loop-index-preserved c =
    let size = c.box_size-bundles.ensures in
    let count = c.requires in
    values-next (box c.args.goods.now) c.args.values.now c.loop-index.index c.bundle.result _ _ c.loop-index.text.items _ _ _ c.bundle.ensures.place (omega (arith, size, count)) refl c.in_ok-line.ensures
    (c.in_ok-extend_from_slice.ensures.items ∙ ap (λ t. c.loop-index.text.items ++ t) c.as_bytes.ensures.value) c.loop-index.invariant

pub returns : goal.returns
returns c =
    let size = c.box_size-bundles.ensures in
    let count = c.requires in
    values-all c.args.bidder c.box_size-bundles.result (box_size c.args.goods.now) (box c.args.goods.now) c.args.values.now c.loop-index.index c.into_bytes-text.result.items c.loop-index.text.items size (omega (arith, size, count))
    (ap (λ v. v.items) c.into_bytes-text.ensures.value ∙ c.in_ok-format.ensures.ok) c.loop-index.invariant
