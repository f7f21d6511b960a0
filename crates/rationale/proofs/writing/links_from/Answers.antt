use Rattle.std.proofs.Common.{◌≡◌, ◌+◌, ◌++◌, ◌-◌, ℕ, List, [], drop, length, slice_index, ap, sym, ◌∙◌, arith}
use Rattle.rationale.specs.Shown.{parent_of}
use Rattle.rationale.specs.Places.{links_of}
use Rattle.rationale.specs.Turned.{edges_of, link_list}
use Rattle.rationale.proofs.Turning.{links-start, links-next}
use Rattle.rationale.specs.declared.links.Link.{Link}
use Rattle.rationale.proofs.writing.links_from.Goals as goal

pub loop-written-init : goal.loop-written-init
loop-written-init c = c.in_ok-links.ensures.items ∙ sym (links-start c.args.goods.now (parent_of c.args.parents.now) c.args.places.now (length c.args.places.now - 0) (omega arith))

pub loop-written-preserved : goal.loop-written-preserved
loop-written-preserved c =
    let supply = c.args.goods.now in
    let ps = parent_of c.args.parents.now in
    let places = c.args.places.now in
    let test = c.loop-written-test.true in
    let k = length places - (c.loop-written.written + 1) in
    let same : length places - 1 - c.loop-written.written ≡ k = omega arith in
    let behind = links_of supply (edges_of ps (drop (length places - c.loop-written.written) places)) [] in
    let added = c.in_ok-add_link.ensures in
    added ∙ ap (λ (ls : List Link). ls ++ link_list supply (ps (slice_index places (length places - 1 - c.loop-written.written)))) c.loop-written.invariant
    ∙ ap (λ (i : ℕ). behind ++ link_list supply (ps (slice_index places i))) same
    ∙ sym (links-next supply ps places k (length places - c.loop-written.written) (omega arith) (omega arith))
