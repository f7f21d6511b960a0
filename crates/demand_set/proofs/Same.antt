-- Two lists of bundles that are the same at each place.
use Rattle.std.proofs.Common.{◌≡◌, ℕ, Bool, true, false, nat_eq, ◌&&◌, List, [], ◌∷◌, length, refl, sym, ◌∙◌, ap, arith}
use Rattle.std.specs.Prelude.{zip}
use Rattle.std.specs.List.{list_all}
use Rattle.std.specs.Cmp.Lexicographic.{slice_cmp}
use Rattle.std.specs.Ordering.{nat_cmp, is_eq}
use Rattle.std.proofs.Common.{eq-eqb}
use Rattle.lot_base.proofs.Within.{both}
use Rattle.std.specs.Cmp.Lexicographic.{pointwise}
use Rattle.std.proofs.lemmas.Bool.Decides.{nat_tests}
use Rattle.demand_set.specs.Same.{same_demand, same_pairs}
use Rattle.std.proofs.lemmas.Slice.Eq.{bytes_eq-Decides, slice_eq-Decides}
use Rattle.std.proofs.lemmas.Map.Text.{is_eq-slice_cmp}

abbrev pub same_pair : List ℕ × List ℕ → Bool
same_pair = λ p. is_eq (slice_cmp nat_cmp p.0 p.1)

pub same-from_pair : (x y : List ℕ) → is_eq (slice_cmp nat_cmp x y) ≡ true → x ≡ y
same-from_pair x y e = (bytes_eq-Decides x y).0 (sym (is_eq-slice_cmp x y) ∙ e)

pub pair-self : (x : List ℕ) → is_eq (slice_cmp nat_cmp x x) ≡ true
pair-self x = is_eq-slice_cmp x x ∙ (bytes_eq-Decides x x).1 refl

pub same_lists : (xs ys : List (List ℕ)) → length xs ≡ length ys → list_all same_pair (zip xs ys) ≡ true → xs ≡ ys
same_lists [] [] n e = refl
same_lists [] (y ∷ ys) n e = absurd (omega arith)
same_lists (x ∷ xs) [] n e = absurd (omega arith)
same_lists (x ∷ xs) (y ∷ ys) n e =
    let h = both (is_eq (slice_cmp nat_cmp x y)) (list_all same_pair (zip xs ys)) e in
    let p = same-from_pair x y h.0 in
    let q = same_lists xs ys (omega arith) h.1 in
    λ i. p i ∷ q i

pub same_self : (xs : List (List ℕ)) → list_all same_pair (zip xs xs) ≡ true
same_self [] = refl
same_self (x ∷ xs) = λ i. pair-self x i && same_self xs i

pub same_iff : (xs ys : List (List ℕ)) (r : Bool) → length xs ≡ length ys → r ≡ list_all same_pair (zip xs ys) → (r ≡ true → xs ≡ ys) × (xs ≡ ys → r ≡ true)
same_iff xs ys r n e = (λ t. same_lists xs ys n (sym e ∙ t), λ p. e ∙ ap (λ z. list_all same_pair (zip xs z)) (sym p) ∙ same_self xs)

pub same_test : (xs ys us vs : List (List ℕ)) (r : Bool) → xs ≡ us → ys ≡ vs → length xs ≡ length ys → r ≡ list_all same_pair (zip xs ys) → r ≡ same_demand us vs
same_test xs ys us vs r p q n e =
    let f : same_demand xs ys ≡ list_all same_pair (zip xs ys) = ap (λ b. b && list_all same_pair (zip xs ys)) (eq-eqb (length xs) (length ys) n) in
    e ∙ sym f ∙ (λ i. same_demand (p i) (q i))

decides : (a b : ℕ) → (nat_eq a b ≡ true → a ≡ b) × (a ≡ b → nat_eq a b ≡ true)
decides a b = ((λ e. grind (arith, nat_tests)), eq-eqb a b)

-- the test of what is kept says whether the demands are the same
pub same_slices : (xs ys us vs : List ℕ) (r : Bool) → xs ≡ us → ys ≡ vs → r ≡ pointwise nat_eq xs ys → (r ≡ true → us ≡ vs) × (us ≡ vs → r ≡ true)
same_slices xs ys us vs r p q e =
    let d = slice_eq-Decides decides xs ys r e in
    ((λ t. sym p ∙ d.0 t ∙ q), (λ s. d.1 (p ∙ s ∙ sym q)))

-- a test that says so is the test of the demands
same-bools : (a b : Bool) → (a ≡ true → b ≡ true) → (b ≡ true → a ≡ true) → a ≡ b
same-bools true b f g = sym (f refl)
same-bools false true f g = g refl
same-bools false false f g = refl

same-says : (xs ys : List (List ℕ)) → (same_demand xs ys ≡ true → xs ≡ ys) × (xs ≡ ys → same_demand xs ys ≡ true)
same-says xs ys = (
  (λ e. let h = both (nat_eq (length xs) (length ys)) (same_pairs xs ys) e in same_lists xs ys ((decides (length xs) (length ys)).0 h.0) h.1),
  (λ e. ap (same_demand xs) (sym e) ∙ (λ i. (decides (length xs) (length xs)).1 refl i && same_self xs i)),
)

pub same-test : (xs ys : List (List ℕ)) (r : Bool) → (r ≡ true → xs ≡ ys) × (xs ≡ ys → r ≡ true) → r ≡ same_demand xs ys
same-test xs ys r iff = let s = same-says xs ys in same-bools r (same_demand xs ys) (λ t. s.1 (iff.0 t)) (λ t. iff.1 (s.0 t))
