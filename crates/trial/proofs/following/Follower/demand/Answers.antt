use Rattle.std.proofs.Common.{◌≡◌, ◌∙◌, sym, subst}
use Rattle.std.specs.Prelude.{IfOk}
use Rattle.lot_base.specs.Goods.{zeros}
use Rattle.lot_base.specs.Economy.{demand}
use Rattle.valuation.proofs.Collected.{IfOk-weaker}
use Rattle.trial.specs.Following.{Followed, Follows}
use Rattle.trial.proofs.Followed.{moved, carries-moved, demand-now}
use Rattle.trial.proofs.following.Follower.demand.Goals as goal

pub returns : goal.returns
returns c = λ u p follows.
    let f : Followed = record { supply = c.self.inside.surplus.supply; worth = c.self.inside.surplus.worth; set = c.self.inside.set.0; owed = c.self.inside.owed } in
    let C : Followed → Type 0 = λ z. Follows z u p in
    let G : Followed → Type 0 = λ z. IfOk c.demand.result (λ d. d ≡ demand z.supply u p) in
    let here = subst C (sym c.self.view_is) follows in
    subst G c.self.view_is
    (IfOk-weaker _ _ (λ d is. is ∙ demand-now f u p c.self.inside.steady c.self.invariant.3 c.self.invariant.1 here) c.demand.result
    (c.demand.ensures (moved u p f.owed f.set) (zeros f.supply) (carries-moved f u p here)))
