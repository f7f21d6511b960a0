use Rattle.migration.proofs.Texts.{same-names}
use Rattle.migration.proofs.auctions.are_same_names.Goals as goal

pub loop-place-preserved : goal.loop-place-preserved
loop-place-preserved c = same-names c.args.one.now c.args.other.now c.loop-place.place c.index-one-place.result c.index-other-place.result c.as_bytes.result.now c.as_bytes-in-loop-place.result.now c.ne.result
    c.loop-place-test.true c.if-one-other.false c.loop-place.invariant c.as_bytes.ensures.value c.index-one-place.is c.as_bytes-in-loop-place.ensures.value c.index-other-place.is c.ne.ensures c.if-ne.false
