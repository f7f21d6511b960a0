use Rattle.std.proofs.Common.{◌≡◌, ◌∙◌, sym, subst, List, ℕ}
use Rattle.demand_set.proofs.Joined.{IsWritten}
use Rattle.demand_set.proofs.PackedForm.{written-whole}
use Rattle.demand_set.proofs.reading.Demand.raw.Goals as goal

pub returns-in-Ok : goal.returns-in-Ok
returns-in-Ok c =
    let items = c.self.inside.quantities.items in
    let same : items ≡ c.from_vec.result = sym (c.from_vec.ensures ∙ c.in-Ok.ensures.items_if_clones_equal (λ x y e. e) ∙ c.deref.ensures.value) in
    let W : List (List ℕ) → Type 0 = λ v. IsWritten v c.self.inside.goods items in
    let Q : List ℕ → Type 0 = λ q. IsWritten c.args.self.now c.self.inside.goods q in
    let shown = subst Q same (subst W c.self.view_is (written-whole c.self.inside.goods items c.self.invariant)) in
    record { goods = shown.goods_of; quantities = shown.joined; whole = shown.whole; bundles = shown.apart; read_back = shown.read_back }
