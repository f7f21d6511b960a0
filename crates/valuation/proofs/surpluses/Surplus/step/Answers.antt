use Rattle.std.proofs.Common.{◌≡◌, ◌∙◌, sym, subst, length, slice_index, List, ℕ}
use Rattle.std.proofs.lemmas.List.{take_at}
use Rattle.lot_base.specs.Goods.{box_size}
use Rattle.valuation.specs.Carried.{Carried, Carries, CarriesAt, IsColumn, IsPaid, greatest, raised_by}
use Rattle.valuation.proofs.Carrying.{carried, empty-paid}
use Rattle.valuation.proofs.surpluses.Surplus.step.Goals as goal

pub returns-clause-carries : goal.returns-clause-carries
returns-clause-carries c = λ u p goods carries.
    let s = c.self.inside.goods in
    let now = c.pay-self-inside.new.worth in
    let units = c.args.column.now.units.items in
    let back = sym c.self.view_is in
    let P : List ℕ → Type 0 = λ worth. CarriesAt s worth u (raised_by c.args.times c.args.set.0 p) in
    let Q : List ℕ → Type 0 = λ z. IsPaid c.args.times z c.deref_mut.result.now now in
    let R : List ℕ → Type 0 = λ old. IsPaid c.args.times units old now in
    let G : Carried → Type 0 = λ z. length p ≡ length z.supply in
    let K : Carried → Type 0 = λ z. IsColumn z.supply c.args.set.0 units in
    let C : Carried → Type 0 = λ z. Carries z u p in
    let paid = subst R c.deref_mut.ensures.value (subst Q c.deref.ensures.value c.pay-self-inside.ensures.paid) in
    let whole = take_at now _ c.self.inside.worth.len (c.pay-self-inside.ensures.paid.whole ∙ c.deref_mut.ensures.len) in
    subst P (sym whole) (carried s c.self.inside.worth.items now units u p c.args.times c.args.set.0 c.self.invariant.1 (subst K back c.requires.column) paid (subst G back goods) (subst C back carries))

pub invariant_of-self : goal.invariant_of-self
invariant_of-self c =
    let s = c.self.inside.goods in
    let now = c.pay-self-inside.new.worth in
    let old = c.self.inside.worth.items in
    let units = c.args.column.now.units.items in
    let back = sym c.self.view_is in
    let Q : List ℕ → Type 0 = λ z. IsPaid c.args.times z c.deref_mut.result.now now in
    let R : List ℕ → Type 0 = λ old. IsPaid c.args.times units old now in
    let K : Carried → Type 0 = λ z. IsColumn z.supply c.args.set.0 units in
    let L : List ℕ → Type 0 = λ worth. length worth ≡ box_size s in
    let E : List ℕ → Type 0 = λ worth. slice_index worth 0 ≡ 1 in
    let B : List ℕ → Type 0 = λ worth. c.pay-self-inside.result ≡ greatest worth in
    let paid = subst R c.deref_mut.ensures.value (subst Q c.deref.ensures.value c.pay-self-inside.ensures.paid) in
    let whole = take_at now _ c.self.inside.worth.len (c.pay-self-inside.ensures.paid.whole ∙ c.deref_mut.ensures.len) in (
      c.self.invariant.0,
      subst L (sym whole) (paid.whole ∙ c.self.invariant.1),
      subst E (sym whole) (empty-paid s old now units c.args.times c.args.set.0 c.self.invariant.1 (subst K back c.requires.column) paid c.self.invariant.2),
      subst B (sym whole) c.pay-self-inside.ensures.greatest,
    )
