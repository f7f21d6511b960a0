use Rattle.std.proofs.Common.{◌≡◌, ◌<◌, ℕ, length, slice_index, ap, refl, arith}
use Rattle.lot_base.specs.Goods.{box_size}
use Rattle.lot_base.specs.Box.{bundle_at}
use Rattle.rationale.specs.Links.{is_in}
use Rattle.rationale.specs.Placed.{bundles_at}
use Rattle.rationale.specs.declared.labels.Parent.{Parent}
use Rattle.rationale.proofs.Showing.{shown}
use Rattle.rationale.proofs.Courses.{course_of_one, gap_small}
use Rattle.rationale.proofs.observing.observe.Goals as goal

pub least_start-start-requires-clause-lifted : goal.least_start-start-requires-clause-lifted
least_start-start-requires-clause-lifted c = λ i inside.
    let long = c.requires.labels in
    let a = c.show_costs.ensures.small i (omega arith) in
    let b = c.requires.between.above i inside in
    omega arith

pub lower-requires-clause-fits : goal.lower-requires-clause-fits
lower-requires-clause-fits c = λ i inside.
    let long = c.requires.labels in
    let places = c.args.wanted.now.places.now in
    let a = c.show_costs.ensures.small i (omega arith) in
    let x = c.requires.wanted.inside c.least_start-start.result.which c.least_start-start.ensures.which in
    let b = c.requires.between.below (slice_index places c.least_start-start.result.which) (omega arith) in
    let r = c.least_start-start.ensures.reached in
    omega arith

pub lower-requires-clause-positive : goal.lower-requires-clause-positive
lower-requires-clause-positive c = λ i inside.
    let long = c.requires.labels in
    let supply = c.args.goods.now in
    let places = c.args.wanted.now.places.now in
    let here : i < box_size supply = omega arith in
    let g = gap_small (is_in (bundle_at supply i) (bundles_at supply places)) (slice_index c.args.wanted.now.gaps.now i) (c.requires.wanted.gaps_are i here) in
    let x = c.requires.wanted.inside c.least_start-start.result.which c.least_start-start.ensures.which in
    let a = c.show_costs.ensures.small (slice_index places c.least_start-start.result.which) x in
    let b = c.requires.between.above (slice_index places c.least_start-start.result.which) (omega arith) in
    let r = c.least_start-start.ensures.reached in
    omega arith

pub returns-clause-course : goal.returns-clause-course
returns-clause-course c =
    let supply = c.args.goods.now in
    let places = c.args.wanted.now.places.now in
    let labels = c.args.labels.now in
    let start = c.least_start-start.result in
    let long : length labels ≡ box_size supply = c.requires.labels in
    let F : ℕ → Parent = λ z. record { observation = c.args.number; x = z } in
    course_of_one supply (record { prices = c.args.prices.now; bundles = bundles_at supply places }) c.args.number c.show_costs.new.costs c.args.wanted.now.gaps.now places labels start.excess start.which
    _ c.args.parents.now c.lower.new.labels c.lower.new.parents c.lower.result
    (shown supply c.args.prices.now c.show_costs.new.costs c.args.wanted.now.gaps.now places c.requires.wanted c.show_costs.ensures.long c.show_costs.ensures.costs)
    long c.requires.parents c.lower.ensures.labels c.lower.ensures.parents c.least_start-start.ensures.which c.least_start-start.ensures.reached c.least_start-start.ensures.least
    c.show_costs.ensures.small c.requires.between (ap F refl) c.lower.ensures.steps c.lower.ensures.some c.lower.ensures.none
