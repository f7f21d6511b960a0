use Rattle.std.proofs.Common.{◌+◌, ◌∙◌, length, ap, sym, subst, arith}
use Rattle.trial.specs.Following.{IsOn}
use Rattle.trial.proofs.Members.{next-changed, skip-changed, next-steady, skip-steady, AreSteadyTo}
use Rattle.trial.proofs.carrying.least_left.Goals as goal
use Rattle.trial.proofs.carrying.least_left.Goals.{then-place-without, else-place-without}

pub loop-place-preserved : goal.loop-place-preserved
loop-place-preserved c =
    let was = c.loop-place.invariant in
    elim c.if-place-without.branch [
      | then-place-without w ↦
          let e = w.least-is in
          let m = w.min-least.ensures in
          record {
            few = (let f = was.few in omega (arith, e, m, f));
            changed = next-changed (IsOn c.args.set.0) c.args.without c.loop-place.place c.args.followers.now c.loop-place.followers c.if-place-without.followers w.index-followers-place.result w.left.new.self was.changed
                (let k = was.changed.count in omega (arith, k, c.loop-place-test.true)) w.followers-is (record { goods = w.left.ensures.goods; on = w.left.ensures.set; follows = w.left.ensures.follows });
            steady = next-steady c.args.without c.args.set.0 c.loop-place.least c.if-place-without.least c.loop-place.place c.loop-place.followers c.if-place-without.followers w.left.new.self was.steady (let k = was.changed.count in omega (arith, k, c.loop-place-test.true)) w.followers-is (omega (arith, e, m))
                (λ n few. record { same = λ u p long follows. w.left.ensures.steady u p (long ∙ ap length w.left.ensures.goods) follows n (omega (arith, e, m, few)) });
          }
      | else-place-without w ↦ record {
        few = (let e = w.least-is in let f = was.few in omega (arith, e, f));
        changed = skip-changed (IsOn c.args.set.0) c.args.without c.loop-place.place c.args.followers.now c.loop-place.followers c.if-place-without.followers was.changed w.if-place-without.false w.followers-is;
        steady = subst (λ n. AreSteadyTo c.args.without c.args.set.0 n (c.loop-place.place + 1) c.if-place-without.followers) (sym w.least-is)
            (skip-steady c.args.without c.args.set.0 c.loop-place.least c.loop-place.place c.loop-place.followers c.if-place-without.followers was.steady w.if-place-without.false w.followers-is);
      }
    ]
