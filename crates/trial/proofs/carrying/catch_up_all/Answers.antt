use Rattle.std.proofs.Common.{sym, subst, arith}
use Rattle.trial.specs.Following.{IsReady}
use Rattle.trial.specs.Rounds.{AreColumns}
use Rattle.trial.proofs.Members.{next-changed, skip-changed}
use Rattle.trial.proofs.carrying.catch_up_all.Goals as goal
use Rattle.trial.proofs.carrying.catch_up_all.Goals.{then-place-without+in_ok-catch_up, else-place-without}

pub loop-place-preserved : goal.loop-place-preserved
loop-place-preserved c =
    let was = c.loop-place.invariant in
    elim c.if-place-without.branch [
      | then-place-without+in_ok-catch_up w ↦ record {
        columns = subst (λ k. AreColumns c.args.goods.now k.items) (sym w.columns-is) w.in_ok-catch_up.ensures.columns;
        changed = next-changed (IsReady c.args.set.0) c.args.without c.loop-place.place c.args.followers.now c.loop-place.followers c.if-place-without.followers w.index-followers-place.result w.catch_up.new.follower was.changed
            (let k = was.changed.count in omega (arith, k, c.loop-place-test.true)) w.followers-is w.in_ok-catch_up.ensures.ready;
      }
      | else-place-without w ↦ record {
        columns = subst (λ k. AreColumns c.args.goods.now k.items) (sym w.columns-is) was.columns;
        changed = skip-changed (IsReady c.args.set.0) c.args.without c.loop-place.place c.args.followers.now c.loop-place.followers c.if-place-without.followers was.changed w.if-place-without.false w.followers-is;
      }
    ]
