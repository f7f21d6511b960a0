use Rattle.std.proofs.Common.{◌-◌, length, drop, refl, arith}
use Rattle.std.proofs.lemmas.Option.{slice_get_read}
use Rattle.award_assembly.proofs.Walking.{reaches-more, reaches-at}
use Rattle.award_assembly.proofs.search.reaches.Goals as goal

pub loop-done-preserved : goal.loop-done-preserved
loop-done-preserved c =
    let s = c.args.goods.now in
    let ds = c.args.demands.now in
    let reach = reaches-at s c.args.opening.now c.args.prices.now ds c.loop-done.done c.loop-done.done c.loop-done.reaches.items c.index.result.now (drop (length ds - c.loop-done.done) ds) c.loop-done.invariant (omega arith) c.index.ensures refl in
    let more = c.in_ok-reach.ensures c.args.opening.now c.args.prices.now (drop (length ds - c.loop-done.done) ds) reach in
    let at = slice_get_read ds (length ds) (length ds - 1 - c.loop-done.done) c.index-demands-demands.result refl (omega arith) c.index-demands-demands.is in
    rw c.in_ok-push-2.ensures.items (reaches-more s c.args.opening.now c.args.prices.now ds c.loop-done.done c.loop-done.reaches.items c.index-demands-demands.result c.in_ok-reach.reach (omega arith) at c.loop-done.invariant more)
