use Rattle.migration.proofs.Texts.{same-texts}
use Rattle.migration.proofs.auctions.are_same_tokens.Goals as goal

pub loop-place-preserved : goal.loop-place-preserved
loop-place-preserved c = same-texts c.args.one.now c.args.other.now c.loop-place.place c.ne.result c.loop-place-test.true c.if-one-other.false c.loop-place.invariant c.ne.ensures c.if-ne.false
