use Rattle.std.proofs.Common.{◌≡◌, ◌<◌, ◌-◌, ◌*◌, ◌^◌, ℕ, length, slice_index, Some, None, subst, refl, arith}
use Rattle.lot_base.specs.Goods.{box_size}
use Rattle.lot_base.proofs.Index.{box_size-above_0}
use Rattle.rationale.specs.Climbs.{Rooted}
use Rattle.rationale.specs.Places.{is_edge, edge_weight}
use Rattle.rationale.specs.Shown.{label_of, parent_of}
use Rattle.rationale.specs.Kept.{thinned}
use Rattle.rationale.specs.Placed.{IsCourse, AreBetween}
use Rattle.rationale.proofs.Passes.{below_start, below_after}
use Rattle.rationale.proofs.Settled.{placed_start, between_start, high_enough, one_less, passed, least_end, parents_inside, more_passes, whole_round, boxed_thin}
use Rattle.rationale.proofs.settling.settle.Goals as goal

pub loop-done-init : goal.loop-done-init
loop-done-init c =
    let supply = c.args.goods.now in
    let os = thinned c.args.stretches.now in
    let labels = c.args.labels.now in
    let long : length labels ≡ box_size supply = c.requires.labels in
    let zero : (i : ℕ) → i < length labels → slice_index labels i ≡ 2 ^ 60 = λ i inside. c.requires.zero i (omega arith) in
    let placed = placed_start supply os labels c.args.parents.now zero c.requires.none in
    record {
      costs = c.requires.costs;
      gaps = c.requires.gaps;
      places = c.requires.places;
      labels = long;
      parents = c.requires.parents;
      few = (let i = box_size-above_0 supply in omega arith);
      between = between_start (length (thinned c.args.stretches.now) * 2 ^ 26) labels zero;
      placed = placed;
      below = below_start (is_edge supply os) (edge_weight supply os) (label_of labels) placed.sums;
    }

pub climb-requires-clause-inside : goal.climb-requires-clause-inside
climb-requires-clause-inside c =
    let supply = c.args.goods.now in
    let os = thinned c.args.stretches.now in
    let course : IsCourse supply os 0 c.loop-done.labels c.loop-done.parents c.pass.new.labels c.pass.new.parents (Some c.in-Fell.place) = rw c.in-Fell.is at c.in_ok-passed.ensures.pass in
    let r = whole_round supply os c.loop-done.labels c.pass.new.labels c.loop-done.parents c.pass.new.parents (Some c.in-Fell.place) course c.loop-done.invariant.placed in
    parents_inside supply os c.pass.new.labels c.pass.new.parents r.placed course.parents_long

pub loop-done-preserved : goal.loop-done-preserved
loop-done-preserved c =
    let supply = c.args.goods.now in
    let os = thinned c.args.stretches.now in
    let n = length (thinned c.args.stretches.now) in
    let i = c.loop-done.invariant in
    let done = c.loop-done.done in
    let l0 = c.loop-done.labels in
    let l1 = c.pass.new.labels in
    let p1 = c.pass.new.parents in
    let o = c.pass.ensures in
    let course : IsCourse supply os 0 l0 c.loop-done.parents l1 p1 (Some c.in-Fell.place) = rw c.in-Fell.is at c.in_ok-passed.ensures.pass in
    let r = whole_round supply os l0 l1 c.loop-done.parents p1 (Some c.in-Fell.place) course i.placed in
    let high = high_enough done (box_size supply) n i.few c.count-count.ensures.supply.small c.requires.few in
    let fell : (c.in-Fell.place < box_size supply) × (slice_index l1 c.in-Fell.place < slice_index l0 c.in-Fell.place) = course.fell in
    let same : length p1 ≡ box_size supply = course.parents_long in
    let rooted : Rooted (parent_of p1) c.in-Fell.place (length p1) = rw c.in_default.is at c.in_ok-around.ensures.none in
    let whole : Rooted (parent_of p1) c.in-Fell.place (box_size supply) = subst (Rooted (parent_of p1) c.in-Fell.place) same rooted in
    record {
      costs = o.costs;
      gaps = o.gaps;
      places = o.places;
      labels = course.labels_long;
      parents = course.parents_long;
      few = more_passes supply os done c.in-Fell.place l0 l1 p1 i.labels course.labels_long i.below r.placed fell.0 fell.1 whole;
      between = subst (λ (a : ℕ). AreBetween a (2 ^ 60) l1) (one_less done (n * 2 ^ 26)) (course.between (2 ^ 60 - done * (n * 2 ^ 26)) high i.between);
      placed = r.placed;
      below = below_after (is_edge supply os) (edge_weight supply os) done (label_of l0) (label_of l1) i.below (passed supply os n l0 l1 p1 refl r);
    }

pub returns-in-Settled-clause-ending : goal.returns-in-Settled-clause-ending
returns-in-Settled-clause-ending c =
    let supply = c.args.goods.now in
    let os = thinned c.args.stretches.now in
    let n = length (thinned c.args.stretches.now) in
    let i = c.loop-done.invariant in
    let l0 = c.loop-done.labels in
    let l1 = c.pass.new.labels in
    let p1 = c.pass.new.parents in
    let o = c.pass.ensures in
    let course : IsCourse supply os 0 l0 c.loop-done.parents l1 p1 None = rw c.in-Settled.is at c.in_ok-passed.ensures.pass in
    let r = whole_round supply os l0 l1 c.loop-done.parents p1 None course i.placed in
    let same : (y : ℕ) → y < box_size supply → slice_index l1 y ≡ slice_index l0 y = course.fell in
    (course.labels_long, least_end supply os l0 l1 p1 (boxed_thin supply c.args.stretches.now c.requires.stretches) i.labels course.labels_long r.placed (passed supply os n l0 l1 p1 refl r) same)
