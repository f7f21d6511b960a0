use Rattle.std.proofs.Common.{◌+◌, ◌-◌, ◌*◌, ◌^◌, List, length, ap, sym, subst, ◌∙◌, arith}
use Rattle.rationale.specs.Observations.{Observation}
use Rattle.rationale.specs.Placed.{bundles_at, IsCourse}
use Rattle.rationale.proofs.Stepping.{length-after}
use Rattle.rationale.proofs.Courses.{between_low}
use Rattle.rationale.proofs.Thinning.{line_of_one, course_of_line}
use Rattle.rationale.proofs.observing.follow_line.Goals as goal

pub returns-then-line-eq1-clause-course : goal.returns-then-line-eq1-clause-course
returns-then-line-eq1-clause-course c =
    let supply = c.args.goods.now in
    let bundles = bundles_at supply c.args.wanted.now.places.now in
    subst (λ (os : List Observation). IsCourse supply os c.args.number c.args.labels.now c.args.parents.now c.observe-fell.new.labels c.observe-fell.new.parents c.observe-fell.result)
    (sym (line_of_one supply bundles c.args.line.now c.requires.line (let t = c.if-line-eq1.true in omega arith))) c.observe-fell.ensures.course

pub observe-last-requires-clause-goods : goal.observe-last-requires-clause-goods
observe-last-requires-clause-goods c =
    let line = c.args.line.now in
    let is = c.requires.line in
    ap length is.last_is ∙ length-after line.first line.step (line.count - 1) (is.first_goods ∙ sym is.step_goods) ∙ is.first_goods

pub observe-last-requires-clause-between : goal.observe-last-requires-clause-between
observe-last-requires-clause-between c =
    let n = c.args.line.now.count in
    let some = c.requires.line.some in
    let test = c.if-line-eq1.false in
    let b = c.observe-fell.ensures.course.between (2 ^ 58 + n * 2 ^ 26) (omega arith) c.requires.between in
    between_low (2 ^ 58 + n * 2 ^ 26 - 1 * 2 ^ 26) (2 ^ 58 + 2 ^ 26) (2 ^ 60) c.observe-fell.new.labels (omega arith) b

pub returns-clause-course : goal.returns-clause-course
returns-clause-course c =
    let some = c.requires.line.some in
    let test = c.if-line-eq1.false in
    course_of_line c.args.goods.now (bundles_at c.args.goods.now c.args.wanted.now.places.now) c.args.line.now c.args.number c.args.labels.now c.observe-fell.new.labels c.observe-last.new.labels
    c.args.parents.now c.observe-fell.new.parents c.observe-last.new.parents c.observe-fell.result c.observe-last.result c.later.result c.requires.line (omega arith)
    c.observe-fell.ensures.course c.observe-last.ensures.course c.later.ensures
