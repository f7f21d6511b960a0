use Rattle.std.proofs.Common.{◌+◌, ◌*◌, ◌^◌, length, take, arith}
use Rattle.rationale.specs.Kept.{lines_by, thin_at}
use Rattle.rationale.specs.Placed.{bundles_at}
use Rattle.rationale.proofs.Taking.{lines_room, lower_room, lines_course, lines_number}
use Rattle.rationale.proofs.observing.follow_lines.Goals as goal

pub follow_line-fell-requires-clause-few : goal.follow_line-fell-requires-clause-few
follow_line-fell-requires-clause-few c =
    let seen = thin_at (bundles_at c.args.goods.now c.args.wanted.now.places.now) in
    let a = lines_room seen c.args.lines.now c.loop-place.place c.index-lines-place.result c.loop-place-test.true c.index-lines-place.is in
    let b = c.loop-place.invariant.next in
    let d = c.requires.few in
    omega arith

pub follow_line-fell-requires-clause-between : goal.follow_line-fell-requires-clause-between
follow_line-fell-requires-clause-between c =
    let seen = thin_at (bundles_at c.args.goods.now c.args.wanted.now.places.now) in
    let lines = c.args.lines.now in
    let n = length (lines_by seen (take c.loop-place.place lines)) in
    let k = length (lines_by seen lines) in
    let a = lines_room seen lines c.loop-place.place c.index-lines-place.result c.loop-place-test.true c.index-lines-place.is in
    lower_room n c.index-lines-place.result.count k c.loop-place.labels a (c.loop-place.invariant.course.between (2 ^ 58 + k * 2 ^ 26) (omega arith) c.requires.between)

pub overflow_add-course : goal.overflow_add-course
overflow_add-course c =
    let seen = thin_at (bundles_at c.args.goods.now c.args.wanted.now.places.now) in
    let a = lines_room seen c.args.lines.now c.loop-place.place c.index-lines-place.result c.loop-place-test.true c.index-lines-place.is in
    let b = c.loop-place.invariant.next in
    let d = c.requires.few in
    omega arith

pub loop-place-preserved : goal.loop-place-preserved
loop-place-preserved c =
    let seen = thin_at (bundles_at c.args.goods.now c.args.wanted.now.places.now) in
    let i = c.loop-place.invariant in
    let line = c.index-lines-place.result in
    record {
      costs = c.follow_line-fell.ensures.costs;
      next = lines_number seen c.args.lines.now c.loop-place.place line c.args.first c.loop-place.course.next c.loop-place-test.true c.index-lines-place.is i.next;
      course = lines_course c.args.goods.now seen c.args.lines.now c.loop-place.place line c.args.first c.loop-place.course.next c.args.labels.now c.loop-place.labels c.follow_line-fell.new.labels
          c.args.parents.now c.loop-place.parents c.follow_line-fell.new.parents c.loop-place.course.fell c.follow_line-fell.result c.later.result c.loop-place-test.true c.index-lines-place.is i.next i.course
          c.follow_line-fell.ensures.course c.later.ensures;
    }
