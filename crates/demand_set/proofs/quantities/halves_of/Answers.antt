use Rattle.std.proofs.Common.{◌≡◌, ℕ, List, subst, arith}
use Rattle.demand_set.specs.Sums.{AreSumsOf}
use Rattle.demand_set.proofs.Sums.{low-short, high-short, are-halves}
use Rattle.demand_set.proofs.quantities.halves_of.Goals as goal

pub sums_of-requires : goal.sums_of-requires
sums_of-requires c =
    let h = low-short c.args.x.now c.requires.few c.requires.short in
    omega (arith, h, c.quantity_at.ensures, c.quantity_at-2.ensures, c.quantity_at-3.ensures)

pub sums_of-requires-2 : goal.sums_of-requires-2
sums_of-requires-2 c =
    let h = high-short c.args.x.now c.requires.few c.requires.short in
    omega (arith, h, c.quantity_at-4.ensures, c.quantity_at-5.ensures, c.quantity_at-6.ensures)

sums-of : (a b c a' b' c' : ℕ) (sums : List ℕ) → a ≡ a' → b ≡ b' → c ≡ c' → AreSumsOf a b c sums → AreSumsOf a' b' c' sums
sums-of a b c a' b' c' sums p q r are =
    let A : ℕ → Type 0 = λ x. AreSumsOf x b c sums in
    let B : ℕ → Type 0 = λ x. AreSumsOf a' x c sums in
    let C : ℕ → Type 0 = λ x. AreSumsOf a' b' x sums in
    subst C r (subst B q (subst A p are))

pub returns : goal.returns
returns c =
    are-halves c.args.x.now c.sums_of.result c.sums_of-2.result c.requires.few
    (sums-of c.quantity_at.result c.quantity_at-2.result c.quantity_at-3.result _ _ _ c.sums_of.result c.quantity_at.ensures c.quantity_at-2.ensures c.quantity_at-3.ensures c.sums_of.ensures)
    (sums-of c.quantity_at-4.result c.quantity_at-5.result c.quantity_at-6.result _ _ _ c.sums_of-2.result c.quantity_at-4.ensures c.quantity_at-5.ensures c.quantity_at-6.ensures c.sums_of-2.ensures)
