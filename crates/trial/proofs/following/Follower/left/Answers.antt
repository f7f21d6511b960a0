use Rattle.std.proofs.Common.{◌∙◌, length, refl, ap, sym, subst, arith}
use Rattle.trial.specs.Following.{Followed}
use Rattle.trial.proofs.Followed.{Stays, demand-left}
use Rattle.trial.proofs.following.Follower.left.Goals as goal
use Rattle.trial.proofs.following.Follower.left.Goals.{then-self-eq0, else-self-eq0}

pub returns-clause-steady : goal.returns-clause-steady
returns-clause-steady c = λ u p long follows n few.
    let inside = c.if-self-eq0.self-inside in
    let f : Followed = record { supply = inside.surplus.supply; worth = inside.surplus.worth; set = inside.set.0; owed = inside.owed } in
    let supply = ap (λ (z : Followed). length z.supply) (sym c.self.view_is) in
    elim c.if-self-eq0.branch [
      | then-self-eq0 w ↦
          let e = w.self-inside-is in
          demand-left f inside.steady c.args.set.0
          (subst (λ k. Stays (record { supply = k.surplus.supply; worth = k.surplus.worth; set = k.set.0; owed = k.owed }) k.steady c.args.set.0) (sym e)
          (record { stays = record { same = w.steady-self-inside.ensures.steady }; few = omega (arith, w.if-self-eq0.true); on = refl }))
          u p (long ∙ supply ∙ (λ i. length (sym e i).surplus.supply)) follows n few
      | else-self-eq0 w ↦
          let e = w.self-inside-is in
          demand-left f inside.steady c.args.set.0
          (subst (λ k. Stays (record { supply = k.surplus.supply; worth = k.surplus.worth; set = k.set.0; owed = k.owed }) k.steady c.args.set.0) (sym e)
          (record {
            stays = c.self.invariant.3;
            few = c.self.invariant.1;
            on = ap (λ (z : Followed). z.set) c.self.view_is ∙ c.requires.same (λ none. w.if-self-eq0.false (ap (λ (z : Followed). z.owed) c.self.view_is ∙ none));
          }))
          u p (long ∙ supply ∙ (λ i. length (sym e i).surplus.supply)) follows n few
    ]
