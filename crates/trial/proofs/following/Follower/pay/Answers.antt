use Rattle.std.proofs.Common.{◌≡◌, length, refl, sym, subst}
use Rattle.lot_base.specs.Goods.{zeros}
use Rattle.valuation.specs.Carried.{raised_by}
use Rattle.trial.specs.Following.{Followed, Follows}
use Rattle.valuation.proofs.Steady.{length-zeros}
use Rattle.trial.proofs.Followed.{moved, follows-paid}
use Rattle.trial.proofs.following.Follower.pay.Goals as goal

pub returns-clause-follows : goal.returns-clause-follows
returns-clause-follows c = λ u p long follows.
    let f : Followed = record { supply = c.self.inside.surplus.supply; worth = c.self.inside.surplus.worth; set = c.self.inside.set.0; owed = c.self.inside.owed } in
    let now : Followed = record { supply = c.step.new.self.supply; worth = c.step.new.self.worth; set = c.self.inside.set.0; owed = 0 } in
    let C : Followed → Type 0 = λ z. Follows z u p in
    let L : Followed → Type 0 = λ z. length p ≡ length z.supply in
    let R : Followed → Type 0 = λ z. Follows now u (raised_by c.args.more z.set p) in
    subst R c.self.view_is
    (follows-paid f now u p c.args.more c.step.ensures.goods refl (subst L (sym c.self.view_is) long) (subst C (sym c.self.view_is) follows)
    (λ carries. c.step.ensures.carries (moved u p f.owed f.set) (zeros f.supply) (length-zeros f.supply) carries))
