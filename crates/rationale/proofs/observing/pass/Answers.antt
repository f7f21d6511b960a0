use Rattle.std.proofs.Common.{rules, ◌+◌, ◌*◌, ◌^◌, ℕ, length, take, ◌∙◌, subst, arith}
use Rattle.rationale.specs.Climbs.{IsAround}
use Rattle.rationale.specs.Shown.{label_of, parent_of}
use Rattle.rationale.specs.Kept.{lines_by, thin_at, thinned}
use Rattle.rationale.proofs.Settled.{parents_inside}
use Rattle.rationale.proofs.Taking.{placed_so_far, all_room, lower_room, all_course, all_number}
use Rattle.rationale.proofs.observing.pass.Goals as goal

pub follow_stretch-now-requires-clause-few : goal.follow_stretch-now-requires-clause-few
follow_stretch-now-requires-clause-few c =
    let a = all_room thin_at c.args.stretches.now c.loop-place.place c.index-stretches-place.result c.loop-place-test.true c.index-stretches-place.is in
    let b = c.loop-place.invariant.next in
    let d = c.requires.few in
    omega arith

pub follow_stretch-now-requires-clause-between : goal.follow_stretch-now-requires-clause-between
follow_stretch-now-requires-clause-between c =
    let s = c.index-stretches-place.result in
    let n = length (thinned (take c.loop-place.place c.args.stretches.now)) in
    let k = length (thinned c.args.stretches.now) in
    let a = all_room thin_at c.args.stretches.now c.loop-place.place s c.loop-place-test.true c.index-stretches-place.is in
    lower_room n (length (lines_by (thin_at s.demand) s.lines.items)) k c.loop-place.labels a (c.loop-place.invariant.course.between (2 ^ 58 + k * 2 ^ 26) (omega arith) c.requires.between)

pub loop-place-preserved : goal.loop-place-preserved
loop-place-preserved c =
    let i = c.loop-place.invariant in
    let s = c.index-stretches-place.result in
    let o = c.follow_stretch-now.ensures in
    record {
      costs = o.costs;
      gaps = o.gaps;
      places = o.places;
      lowered = search rules;
      next = o.next ∙ all_number c.args.stretches.now c.loop-place.place s c.loop-place.course.next c.loop-place-test.true c.index-stretches-place.is i.next;
      course = all_course c.args.goods.now c.args.stretches.now c.loop-place.place s c.loop-place.course.next c.args.labels.now c.loop-place.labels c.follow_stretch-now.new.labels
          c.args.parents.now c.loop-place.parents c.follow_stretch-now.new.parents c.loop-place.course.fell c.follow_stretch-now.result.fell c.later.result c.loop-place-test.true c.index-stretches-place.is i.next i.course
          o.course c.later.ensures;
    }

pub look_for_cycle-requires-clause-inside : goal.look_for_cycle-requires-clause-inside
look_for_cycle-requires-clause-inside c =
    let supply = c.args.goods.now in
    let s = c.index-stretches-place.result in
    let o = c.follow_stretch-now.ensures in
    let i = c.loop-place.invariant in
    let course = all_course supply c.args.stretches.now c.loop-place.place s c.loop-place.course.next c.args.labels.now c.loop-place.labels c.follow_stretch-now.new.labels
    c.args.parents.now c.loop-place.parents c.follow_stretch-now.new.parents c.loop-place.course.fell c.follow_stretch-now.result.fell c.later.result c.loop-place-test.true c.index-stretches-place.is i.next i.course
    o.course c.later.ensures in
    let placed = placed_so_far supply c.args.stretches.now (c.loop-place.place + 1) c.args.labels.now c.follow_stretch-now.new.labels c.args.parents.now c.follow_stretch-now.new.parents c.later.result course c.requires.placed in
    parents_inside supply (thinned c.args.stretches.now) c.follow_stretch-now.new.labels c.follow_stretch-now.new.parents placed o.course.parents_long

pub returns-in-Some-clause-pass : goal.returns-in-Some-clause-pass
returns-in-Some-clause-pass c =
    let supply = c.args.goods.now in
    let s = c.index-stretches-place.result in
    let o = c.follow_stretch-now.ensures in
    let i = c.loop-place.invariant in
    let course = all_course supply c.args.stretches.now c.loop-place.place s c.loop-place.course.next c.args.labels.now c.loop-place.labels c.follow_stretch-now.new.labels
    c.args.parents.now c.loop-place.parents c.follow_stretch-now.new.parents c.loop-place.course.fell c.follow_stretch-now.result.fell c.later.result c.loop-place-test.true c.index-stretches-place.is i.next i.course
    o.course c.later.ensures in
    let placed = placed_so_far supply c.args.stretches.now (c.loop-place.place + 1) c.args.labels.now c.follow_stretch-now.new.labels c.args.parents.now c.follow_stretch-now.new.parents c.later.result course c.requires.placed in (
      subst (λ (n : ℕ). IsAround (parent_of c.follow_stretch-now.new.parents) n c.in-Some.around.path.items c.in-Some.around.first) o.course.parents_long
          (rw c.in-Some.is at c.in_ok-around.ensures),
      (label_of c.follow_stretch-now.new.labels, placed.sound),
    )
