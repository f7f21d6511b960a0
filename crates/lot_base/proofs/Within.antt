-- A bundle that passes the test is in the box, and the other way round.
use Rattle.std.proofs.Common.{◌≡◌, ◌≤◌, ℕ, suc, Bool, true, false, ◌&&◌, nat_eq, List, [], ◌∷◌, length, arith, refl, sym, ap, ◌∙◌, IsTrue, ◌↔◌}
use Rattle.std.specs.Prelude.{nat_le, zip}
use Rattle.std.specs.List.{list_all}
use Rattle.std.proofs.lemmas.Bool.Decides.{nat_tests}
use Rattle.lot_base.specs.Goods.{is_within, AtMost}

pub both : (a b : Bool) → (a && b) ≡ true → (a ≡ true) × (b ≡ true)
both true b e = (refl, e)
both false b e = absurd (let f : false ≡ true = e in cc)

pub within-first : (s x : ℕ) (supply bundle : List ℕ) → is_within (s ∷ supply) (x ∷ bundle) ≡ true → (x ≤ s) × (is_within supply bundle ≡ true)
within-first s x supply bundle e =
    let h = both (nat_eq (suc (length supply)) (suc (length bundle))) (nat_le x s && list_all (λ p. nat_le p.1 p.0) (zip supply bundle)) e in
    let k = both (nat_le x s) (list_all (λ p. nat_le p.1 p.0) (zip supply bundle)) h.1 in
    let n : nat_eq (length supply) (length bundle) ≡ true = (let t = h.0 in grind (arith, nat_tests)) in
    ((let t = k.0 in grind (arith, nat_tests)), (λ i. n i && k.1 i))

pub within-short : (s : ℕ) (supply : List ℕ) → is_within (s ∷ supply) [] ≡ true → ⊥
within-short s supply e = let h = both (nat_eq (suc (length supply)) 0) true e in let t = h.0 in grind (arith, nat_tests)

pub within-long : (q : ℕ) (x : List ℕ) → is_within [] (q ∷ x) ≡ true → ⊥
within-long q x e = let h = both (nat_eq 0 (suc (length x))) true e in let t = h.0 in grind (arith, nat_tests)

pub within-at_most : (supply x : List ℕ) → is_within supply x ≡ true → AtMost x supply
within-at_most [] [] e = tt
within-at_most [] (q ∷ x) e = absurd (within-long q x e)
within-at_most (s ∷ supply) [] e = absurd (within-short s supply e)
within-at_most (s ∷ supply) (q ∷ x) e = let h = within-first s q supply x e in (h.0, within-at_most supply x h.1)

pub at_most-within : (supply x : List ℕ) → AtMost x supply → is_within supply x ≡ true
at_most-within [] [] h = refl
at_most-within [] (q ∷ x) h = absurd h
at_most-within (s ∷ supply) [] h = absurd h
at_most-within (s ∷ supply) (q ∷ x) h =
    let i = at_most-within supply x h.1 in
    let k = both (nat_eq (length supply) (length x)) (list_all (λ p. nat_le p.1 p.0) (zip supply x)) i in
    let n : nat_eq (suc (length supply)) (suc (length x)) ≡ true = (let t = k.0 in grind (arith, nat_tests)) in
    let m : nat_le q s ≡ true = (let t = h.0 in grind (arith, nat_tests)) in
    λ j. n j && (m j && k.1 j)

-- the test on a list that is the supply
pub fits-means : (cells supply x : List ℕ) (fits : Bool) → fits ≡ is_within cells x → cells ≡ supply → IsTrue fits ↔ AtMost x supply
fits-means cells supply x fits test same =
    let e : fits ≡ is_within supply x = test ∙ ap (λ s. is_within s x) same in
    ((λ h. within-at_most supply x (sym e ∙ h)), (λ h. e ∙ at_most-within supply x h))
