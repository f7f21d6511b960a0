use Rattle.std.proofs.Common.{◌≡◌, ◌≤◌, ◌∙◌, refl, sym, subst, arith}
use Rattle.lot_base.specs.Goods.{zeros}
use Rattle.lot_base.specs.Economy.{demand}
use Rattle.valuation.specs.Values.{valuation_of}
use Rattle.valuation.specs.Carried.{AreLowCosts}
use Rattle.trial.specs.Following.{Followed, Follows}
use Rattle.trial.proofs.Followed.{moved, carries-moved, demand-now, follows-new, stays-none}
use Rattle.trial.proofs.following.Follower.renew.Goals as goal

pub returns-clause-follows : goal.returns-clause-follows
returns-clause-follows c = λ p are.
    let n : Followed = record { supply = c.renew.new.self.supply; worth = c.renew.new.self.worth; set = c.self.inside.set.0; owed = 0 } in
    let A : Followed → Type 0 = λ z. AreLowCosts z.supply p c.args.costs.now in
    let F : Followed → Type 0 = λ z. Follows n (valuation_of z.supply c.args.valuation.now) p in
    subst F c.self.view_is (follows-new n (valuation_of c.self.inside.surplus.supply c.args.valuation.now) p refl (c.renew.ensures.carries p (subst A (sym c.self.view_is) are)))

pub returns-clause-same : goal.returns-clause-same
returns-clause-same c = λ kept u v p q was is.
    let s = c.self.inside.surplus in
    let f : Followed = record { supply = s.supply; worth = s.worth; set = c.self.inside.set.0; owed = c.self.inside.owed } in
    let n : Followed = record { supply = c.renew.new.self.supply; worth = c.renew.new.self.worth; set = c.self.inside.set.0; owed = 0 } in
    let C : Followed → Type 0 = λ z. Follows z u p in
    let D : Followed → Type 0 = λ z. demand n.supply v q ≡ demand z.supply u p in
    let here = subst C (sym c.self.view_is) was in
    let old = demand-now f u p c.self.inside.steady c.self.invariant.3 c.self.invariant.1 here in
    let new = demand-now n v q 0 (stays-none n.supply n.worth n.set 0 refl) (let none : n.owed ≤ 0 = omega arith in none) is in
    let same = c.renew.ensures.same kept (moved u p f.owed f.set) (moved v q n.owed n.set) (zeros f.supply) (zeros n.supply) (carries-moved f u p here) (carries-moved n v q is) in
    subst D c.self.view_is (sym new ∙ same ∙ old)

pub returns-clause-other : goal.returns-clause-other
returns-clause-other c = λ changed u v p q was is same.
    let s = c.self.inside.surplus in
    let f : Followed = record { supply = s.supply; worth = s.worth; set = c.self.inside.set.0; owed = c.self.inside.owed } in
    let n : Followed = record { supply = c.renew.new.self.supply; worth = c.renew.new.self.worth; set = c.self.inside.set.0; owed = 0 } in
    let C : Followed → Type 0 = λ z. Follows z u p in
    let D : Followed → Type 0 = λ z. demand n.supply v q ≡ demand z.supply u p in
    let here = subst C (sym c.self.view_is) was in
    let old = demand-now f u p c.self.inside.steady c.self.invariant.3 c.self.invariant.1 here in
    let new = demand-now n v q 0 (stays-none n.supply n.worth n.set 0 refl) (let none : n.owed ≤ 0 = omega arith in none) is in
    c.renew.ensures.other changed (moved u p f.owed f.set) (moved v q n.owed n.set) (zeros f.supply) (zeros n.supply) (carries-moved f u p here) (carries-moved n v q is) (new ∙ subst D (sym c.self.view_is) same ∙ sym old)
