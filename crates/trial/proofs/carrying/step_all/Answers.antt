use Rattle.std.proofs.Common.{arith}
use Rattle.trial.specs.Following.{IsStepped}
use Rattle.trial.proofs.Members.{next-changed, skip-changed}
use Rattle.trial.proofs.carrying.step_all.Goals as goal
use Rattle.trial.proofs.carrying.step_all.Goals.{then-place-without, else-place-without}

pub loop-place-preserved : goal.loop-place-preserved
loop-place-preserved c =
    let was = c.loop-place.invariant in
    elim c.if-place-without.branch [
      | then-place-without w ↦
          next-changed (IsStepped c.args.times) c.args.without c.loop-place.place c.args.followers.now c.loop-place.followers c.if-place-without.followers w.index-followers-place.result w.step.new.self was
          (let k = was.count in omega (arith, k, c.loop-place-test.true)) w.followers-is (record { goods = w.step.ensures.goods; follows = w.step.ensures.follows })
      | else-place-without w ↦ skip-changed (IsStepped c.args.times) c.args.without c.loop-place.place c.args.followers.now c.loop-place.followers c.if-place-without.followers was w.if-place-without.false w.followers-is
    ]
