-- Each bundle in turn is the first of those that are left.
use Rattle.std.proofs.Common.{◌≡◌, ◌-◌, ◌/◌, ◌∙◌, ap, refl, arith, length, length-drop, max}
use Rattle.demand_set.specs.Reading.{bundles_of}
use Rattle.demand_set.proofs.Groups.{left-next}
use Rattle.demand_set.proofs.Tables.{begins, folding-next, short-next, fits-rows, greatest-done, room-first}
use Rattle.demand_set.proofs.quantities.greatest_of.Goals as goal

pub loop-place-init : goal.loop-place-init
loop-place-init c =
    let b = begins max c.args.goods 0 c.args.quantities.now c.requires.few_goods c.requires.whole c.requires.short in
    record { left = b.left; short = b.short; folding = b.folding }

pub split_at-requires : goal.split_at-requires
split_at-requires c = room-first (length c.args.quantities.now / c.args.goods) c.loop-place._place c.args.goods _ c.loop-place-test.true c.loop-place.invariant.left

pub halves_of-halves-requires-clause-short : goal.halves_of-halves-requires-clause-short
halves_of-halves-requires-clause-short c =
    (short-next c.args.goods c.loop-place._place (length c.args.quantities.now / c.args.goods) c.args.goods c.loop-place.rest.now c.split_at.result.0.now c.split_at.result.1.now c.loop-place-test.true refl c.split_at.ensures.front c.split_at.ensures.back c.loop-place.invariant.short).0

pub keep_greatest-requires-clause-fits : goal.keep_greatest-requires-clause-fits
keep_greatest-requires-clause-fits c =
    let short = (short-next c.args.goods c.loop-place._place (length c.args.quantities.now / c.args.goods) c.args.goods c.loop-place.rest.now c.split_at.result.0.now c.split_at.result.1.now c.loop-place-test.true refl c.split_at.ensures.front c.split_at.ensures.back c.loop-place.invariant.short).0 in
    fits-rows c.split_at.result.0.now c.halves_of-halves.result.low c.halves_of-halves.result.high short c.halves_of-halves.ensures

pub loop-place-preserved : goal.loop-place-preserved
loop-place-preserved c =
    let end = length c.args.quantities.now / c.args.goods in
    record {
      left = ap length c.split_at.ensures.back ∙ length-drop c.args.goods c.loop-place.rest.now ∙ left-next _ end c.loop-place._place c.args.goods c.loop-place-test.true c.loop-place.invariant.left;
      short = (short-next c.args.goods c.loop-place._place end c.args.goods c.loop-place.rest.now c.split_at.result.0.now c.split_at.result.1.now c.loop-place-test.true refl c.split_at.ensures.front c.split_at.ensures.back c.loop-place.invariant.short).1;
      folding = folding-next max c.args.goods c.rows_of-rows.result _ c.loop-place._place end c.args.goods c.loop-place.rest.now c.split_at.result.0.now c.split_at.result.1.now c.halves_of-halves.result.low c.halves_of-halves.result.high c.loop-place.table c.keep_greatest.new.table (bundles_of c.args.goods c.args.quantities.now) c.loop-place-test.true refl c.split_at.ensures.front c.split_at.ensures.back
          c.rows_of-rows.ensures.all c.rows_of-rows.ensures.few c.halves_of-halves.ensures c.keep_greatest.ensures c.loop-place.invariant.folding;
    }

pub returns : goal.returns
returns c =
    let none : length c.args.quantities.now / c.args.goods - c.loop-place._place ≡ 0 = omega (arith, c.loop-place-test.false) in
    greatest-done c.args.goods (bundles_of c.args.goods c.args.quantities.now) _ c.loop-place.rest.now c.loop-place.table c.copy_sets.new.into none c.requires.some c.copy_sets.ensures c.loop-place.invariant.folding
