use Rattle.std.proofs.Common.{arith}
use Rattle.overshoot.proofs.Moves.{first-broken, all-more, has-exchange}
use Rattle.overshoot.proofs.exchanging.verdict.Goals as goal

pub returns-in-Some : goal.returns-in-Some
returns-in-Some c =
    first-broken c.args.table.now.demand.now c.loop-place.place c.in-Some.broken.place c.in-Some.broken.good c.get-x.result c.get.result c.get-x.ensures c.get.ensures c.loop-place.invariant c.in-Some.ensures.some

pub loop-place-preserved : goal.loop-place-preserved
loop-place-preserved c =
    all-more c.args.table.now.demand.now c.get-x.result c.loop-place.place c.get-x.ensures c.in_default.ensures.none c.loop-place.invariant

pub returns : goal.returns
returns c = has-exchange c.args.table.now.demand.now c.loop-place.place (omega (arith, c.loop-place-test.false, c.len-place-end.ensures.value)) c.loop-place.invariant
