use Rattle.std.proofs.Common.{◌≡◌, ◌∙◌, ap, sym, subst, length, List, ℕ}
use Rattle.std.proofs.lemmas.List.{take_at}
use Rattle.lot_base.specs.Goods.{box_size}
use Rattle.lot_base.specs.Economy.{demand}
use Rattle.valuation.specs.Values.{valuation_of}
use Rattle.valuation.specs.Carried.{AreAlike, AreLowCosts, Carried, Carries, CarriesAt, IsLeft, greatest}
use Rattle.valuation.proofs.Renewed.{alike-demand, carried-left, carried-with, demand-alike}
use Rattle.valuation.proofs.Spread.{left-carries}
use Rattle.valuation.proofs.surpluses.Surplus.renew.Goals as goal

pub returns-clause-carries : goal.returns-clause-carries
returns-clause-carries c = λ p are.
    let s = c.self.inside.goods in
    let now = c.leave.new.worth in
    let supply = ap (λ (z : Carried). z.supply) (sym c.self.view_is) in
    let P : List ℕ → Type 0 = λ worth. CarriesAt s worth (valuation_of c.args.self.now.supply c.args.valuation.now) p in
    let V : List ℕ → Type 0 = λ z. IsLeft z c.as_slice-2.result.now now in
    let W : List ℕ → Type 0 = λ z. IsLeft c.args.valuation.now z now in
    let A : List ℕ → Type 0 = λ z. AreLowCosts z p c.args.costs.now in
    let G : List ℕ → Type 0 = λ z. CarriesAt s now (valuation_of z c.args.valuation.now) p in
    let left = subst W c.as_slice-2.ensures.value (subst V c.as_slice-values.ensures.value c.leave.ensures.left) in
    let long = left.whole ∙ c.requires.whole ∙ ap box_size supply ∙ sym (ap length c.deref_mut.ensures.value ∙ c.self.invariant.1) in
    let whole = take_at now _ c.self.inside.worth.len (long ∙ c.deref_mut.ensures.len) in
    subst P (sym whole) (subst G (sym supply) (left-carries s p c.args.valuation.now c.args.costs.now now c.as_slice-values.ensures.held (subst A supply are) left))

pub returns-clause-same : goal.returns-clause-same
returns-clause-same c = λ kept u v p q was is.
    let s = c.self.inside.goods in
    let now = c.leave.new.worth in
    let costs = c.args.costs.now in
    let values = c.args.valuation.now in
    let before = c.self.inside.best in
    let best = c.greatest_left-self-inside.result in
    let supply = ap (λ (z : Carried). z.supply) (sym c.self.view_is) in
    let P : List ℕ → Type 0 = λ worth. CarriesAt s worth v q in
    let V : List ℕ → Type 0 = λ z. IsLeft z c.as_slice-2.result.now now in
    let W : List ℕ → Type 0 = λ z. IsLeft values z now in
    let B : List ℕ → Type 0 = λ z. (worth : List ℕ) → IsLeft z c.as_slice.result.now worth → best ≡ greatest worth in
    let D : List ℕ → Type 0 = λ z. (worth : List ℕ) → IsLeft values z worth → best ≡ greatest worth in
    let C : Carried → Type 0 = λ z. Carries z u p in
    let O : List ℕ → Type 0 = λ z. AreAlike before best z now (length z) in
    let left = subst W c.as_slice-2.ensures.value (subst V c.as_slice-values.ensures.value c.leave.ensures.left) in
    let wide : length costs ≡ box_size s = c.requires.whole ∙ ap box_size supply in
    let whole = take_at now _ c.self.inside.worth.len (left.whole ∙ wide ∙ sym (ap length c.deref_mut.ensures.value ∙ c.self.invariant.1) ∙ c.deref_mut.ensures.len) in
    let greatest_is = subst D c.as_slice.ensures.value (subst B c.as_slice-values.ensures.value c.greatest_left-self-inside.ensures) now left in
    let new = carried-left s values costs now v q best c.as_slice-values.ensures.held wide c.as_slice-2.ensures.empty left greatest_is (subst P whole is) in
    let old = carried-with s c.self.inside.worth.items u p before c.self.invariant.1 c.self.invariant.2 c.self.invariant.3 (subst C (sym c.self.view_is) was) in
    let S : List ℕ → Type 0 = λ z. demand s v q ≡ demand z u p in
    subst S (sym supply) (alike-demand s c.self.inside.worth.items now u v p q before best old new (subst O c.deref_mut.ensures.value (c.leave.ensures.same kept)))

pub returns-clause-other : goal.returns-clause-other
returns-clause-other c = λ changed u v p q was is same.
    let s = c.self.inside.goods in
    let now = c.leave.new.worth in
    let costs = c.args.costs.now in
    let values = c.args.valuation.now in
    let before = c.self.inside.best in
    let best = c.greatest_left-self-inside.result in
    let supply = ap (λ (z : Carried). z.supply) (sym c.self.view_is) in
    let P : List ℕ → Type 0 = λ worth. CarriesAt s worth v q in
    let V : List ℕ → Type 0 = λ z. IsLeft z c.as_slice-2.result.now now in
    let W : List ℕ → Type 0 = λ z. IsLeft values z now in
    let B : List ℕ → Type 0 = λ z. (worth : List ℕ) → IsLeft z c.as_slice.result.now worth → best ≡ greatest worth in
    let D : List ℕ → Type 0 = λ z. (worth : List ℕ) → IsLeft values z worth → best ≡ greatest worth in
    let C : Carried → Type 0 = λ z. Carries z u p in
    let O : List ℕ → Type 0 = λ z. AreAlike before best z now (length z) in
    let left = subst W c.as_slice-2.ensures.value (subst V c.as_slice-values.ensures.value c.leave.ensures.left) in
    let wide : length costs ≡ box_size s = c.requires.whole ∙ ap box_size supply in
    let whole = take_at now _ c.self.inside.worth.len (left.whole ∙ wide ∙ sym (ap length c.deref_mut.ensures.value ∙ c.self.invariant.1) ∙ c.deref_mut.ensures.len) in
    let greatest_is = subst D c.as_slice.ensures.value (subst B c.as_slice-values.ensures.value c.greatest_left-self-inside.ensures) now left in
    let new = carried-left s values costs now v q best c.as_slice-values.ensures.held wide c.as_slice-2.ensures.empty left greatest_is (subst P whole is) in
    let old = carried-with s c.self.inside.worth.items u p before c.self.invariant.1 c.self.invariant.2 c.self.invariant.3 (subst C (sym c.self.view_is) was) in
    let S : List ℕ → Type 0 = λ z. demand s v q ≡ demand z u p in
    c.leave.ensures.other changed (subst O (sym c.deref_mut.ensures.value) (demand-alike s c.self.inside.worth.items now u v p q before best old new (subst S supply same)))
