use Rattle.std.proofs.Common.{◌∙◌, ◌++◌, ap, arith, length, refl}
use Rattle.house_run.proofs.Judging.{known-at, links-all, links-next, place-is}
use Rattle.house_run.proofs.judge_texts.links_text.Goals as goal

pub loop-link-preserved : goal.loop-link-preserved
loop-link-preserved c =
    let known = known-at (length c.args.places.now) c.args.links.now c.loop-link.link-index c.link-item.result c.requires (omega arith) c.link-item.is in
    links-next c.args.places.now c.args.links.now c.loop-link.link-index c.link-item.result _ c.into_bytes-text.result.items c.loop-link.text.items _ _ (omega arith) c.link-item.is
    (place-is c.args.places.now c.link-item.result _ _ refl known) c.in_ok-line.ensures
    (c.in_ok-extend_from_slice.ensures.items ∙ ap (λ t. c.loop-link.text.items ++ t) c.as_bytes.ensures.value) c.loop-link.invariant

pub returns : goal.returns
returns c =
    links-all c.args.bidder (length c.args.links.now) c.args.places.now c.args.links.now c.loop-link.link-index c.into_bytes-text.result.items c.loop-link.text.items (omega arith)
    (ap (λ v. v.items) c.into_bytes-text.ensures.value ∙ c.in_ok-format.ensures.ok) c.loop-link.invariant
