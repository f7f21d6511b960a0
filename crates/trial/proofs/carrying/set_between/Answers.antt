use Rattle.std.proofs.Common.{◌∙◌, length, refl, arith}
use Rattle.trial.proofs.Risen.{set-next, small-next, byte-is}
use Rattle.trial.proofs.carrying.set_between.Goals as goal

pub loop-place-preserved : goal.loop-place-preserved
loop-place-preserved c = record {
  small = small-next c.loop-place.place c.from.result c.loop-place.set _ (c.from.ensures ∙ byte-is _) c.loop-place.invariant.small;
  whole = set-next c.args.before.now c.args.after.now (length c.args.before.now) c.loop-place.place c.from.result c.loop-place.set refl c.requires.same (omega arith) (c.from.ensures ∙ byte-is _) c.loop-place.invariant.whole;
}
