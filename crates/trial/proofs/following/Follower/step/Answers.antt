use Rattle.std.proofs.Common.{◌≡◌, ◌+◌, length, refl, sym, subst}
use Rattle.valuation.specs.Carried.{raised_by}
use Rattle.trial.specs.Following.{Followed, Follows}
use Rattle.trial.proofs.Followed.{follows-owed}
use Rattle.trial.proofs.following.Follower.step.Goals as goal

pub returns-then-owed-self-clause-follows : goal.returns-then-owed-self-clause-follows
returns-then-owed-self-clause-follows c = λ u p long follows.
    let f : Followed = record { supply = c.self.inside.surplus.supply; worth = c.self.inside.surplus.worth; set = c.self.inside.set.0; owed = c.self.inside.owed } in
    let now : Followed = record f { owed = f.owed + c.args.times } in
    let C : Followed → Type 0 = λ z. Follows z u p in
    let L : Followed → Type 0 = λ z. length p ≡ length z.supply in
    let R : Followed → Type 0 = λ z. Follows now u (raised_by c.args.times z.set p) in
    subst R c.self.view_is (follows-owed f now u p c.args.times refl (subst L (sym c.self.view_is) long) (subst C (sym c.self.view_is) follows))
