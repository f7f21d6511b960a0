-- The box is in ascending order, and what is left of an ascending list is ascending.
use Rattle.std.proofs.Common.{◌≡◌, ◌≤◌, ◌<◌, ℕ, suc, zero, ◌+◌, Bool, List, [], ◌∷◌, ◌++◌, length, refl, sym, ap, ◌∙◌, arith, inl, inr}
use Rattle.std.specs.Prelude.{map, flat_map, filter, ℤ}
use Rattle.std.specs.List.{range_with_len, AllByRecursion}
use Rattle.std.specs.Cmp.Lexicographic.{slice_cmp}
use Rattle.std.specs.Cmp.{nat_cmp_is}
use Rattle.std.specs.Ordering.{nat_cmp, ordering_then, int_eq}
use Rattle.std.specs.declared.cmp.Ordering.TheVariants.{Less}
use Rattle.std.proofs.lemmas.Cmp.{nat_list_cmp_total, nat_cmp_total, tied_itself}
use Rattle.std.proofs.lemmas.Bool.{cases_Bool, cond-true, cond-false}
use Rattle.lot_base.specs.Goods.{AtMost}
use Rattle.lot_base.specs.Box.{box, IsIn}
use Rattle.lot_base.specs.Demands.{IsAscending, IsDemand}
use Rattle.lot_base.specs.Economy.{surplus, indirect_utility, demand}
use Rattle.lot_base.proofs.Lists.{row-IsIn, rows-IsIn}
use Rattle.lot_base.proofs.Demand.{surplus_reached, demanded_at, filter-IsIn, IsIn-demand, demand-IsIn}

-- x comes before each bundle of the list
abbrev IsBefore : List ℕ → List (List ℕ) → Type 0
IsBefore x xs = (y : List ℕ) → IsIn y xs → slice_cmp nat_cmp x y ≡ Less

IsAscending-cons : (x : List ℕ) (xs : List (List ℕ)) → IsBefore x xs → IsAscending xs → IsAscending (x ∷ xs)
IsAscending-cons x [] before up = tt
IsAscending-cons x (y ∷ xs) before up = (before y (inl refl), up)

IsAscending-behind : (x : List ℕ) (xs : List (List ℕ)) → IsAscending (x ∷ xs) → IsAscending xs
IsAscending-behind x [] up = tt
IsAscending-behind x (y ∷ xs) up = up.1

IsAscending-first : (x : List ℕ) (xs : List (List ℕ)) → IsAscending (x ∷ xs) → IsBefore x xs
IsAscending-first x [] up z m = absurd m
IsAscending-first x (y ∷ xs) up z (inl e) = ap (slice_cmp nat_cmp x) e ∙ up.0
IsAscending-first x (y ∷ xs) up z (inr m) = nat_list_cmp_total.trans x y z up.0 (IsAscending-first y xs up.1 z m)

IsAscending-append : (xs ys : List (List ℕ)) → IsAscending xs → IsAscending ys → ((x : List ℕ) → IsIn x xs → IsBefore x ys) → IsAscending (xs ++ ys)
IsAscending-append [] ys up more before = more
IsAscending-append (x ∷ []) ys up more before = IsAscending-cons x ys (before x (inl refl)) more
IsAscending-append (x ∷ (y ∷ xs)) ys up more before = (up.0, IsAscending-append (y ∷ xs) ys up.1 more (λ z m. before z (inr m)))

cmp-same_first : (q : ℕ) (x y : List ℕ) → slice_cmp nat_cmp (q ∷ x) (q ∷ y) ≡ slice_cmp nat_cmp x y
cmp-same_first q x y = ap (λ o. ordering_then o (slice_cmp nat_cmp x y)) (tied_itself nat_cmp_total q)

cmp-less_first : (q r : ℕ) (x y : List ℕ) → q < r → slice_cmp nat_cmp (q ∷ x) (r ∷ y) ≡ Less
cmp-less_first q r x y less = ap (λ o. ordering_then o (slice_cmp nat_cmp x y)) (sym (nat_cmp_is q r Less less))

IsAscending-row : (q : ℕ) (xs : List (List ℕ)) → IsAscending xs → IsAscending (map (λ ys. q ∷ ys) xs)
IsAscending-row q [] up = tt
IsAscending-row q (x ∷ []) up = tt
IsAscending-row q (x ∷ (y ∷ xs)) up = (cmp-same_first q x y ∙ up.0, IsAscending-row q (y ∷ xs) up.1)

IsAscending-rows : (a n : ℕ) (xs : List (List ℕ)) → IsAscending xs → IsAscending (flat_map (λ q. map (λ ys. q ∷ ys) xs) (range_with_len a n))
IsAscending-rows a zero xs up = tt
IsAscending-rows a (suc n) xs up =
    IsAscending-append (map (λ ys. a ∷ ys) xs) (flat_map (λ q. map (λ ys. q ∷ ys) xs) (range_with_len (a + 1) n)) (IsAscending-row a xs up) (IsAscending-rows (a + 1) n xs up) before
  where
    before : (x : List ℕ) → IsIn x (map (λ ys. a ∷ ys) xs) → IsBefore x (flat_map (λ q. map (λ ys. q ∷ ys) xs) (range_with_len (a + 1) n))
    before x m y k =
        let t = row-IsIn a x xs m in
        let r = rows-IsIn (a + 1) n y xs k in
        let least = r.least in
        (λ i. slice_cmp nat_cmp (t.is i) (r.is i)) ∙ cmp-less_first a r.first t.rest r.rest (omega arith)

pub IsAscending-box : (supply : List ℕ) → IsAscending (box supply)
IsAscending-box [] = tt
IsAscending-box (s ∷ supply) = IsAscending-rows 0 (s + 1) (box supply) (IsAscending-box supply)

IsAscending-filter : (test : List ℕ → Bool) (xs : List (List ℕ)) → IsAscending xs → IsAscending (filter test xs)
IsAscending-filter test [] up = tt
IsAscending-filter test (x ∷ xs) up = elim (cases_Bool (test x)) [
  | inl kept ↦ rw (cond-true (test x) (x ∷ filter test xs) (filter test xs) kept)
      (IsAscending-cons x (filter test xs) (λ y m. IsAscending-first x xs up y ((filter-IsIn test y xs m).0)) (IsAscending-filter test xs (IsAscending-behind x xs up)))
  | inr left ↦ rw (cond-false (test x) (x ∷ filter test xs) (filter test xs) left) (IsAscending-filter test xs (IsAscending-behind x xs up))
]

all_in : (P : List ℕ → Type 0) (xs : List (List ℕ)) → ((x : List ℕ) → IsIn x xs → P x) → AllByRecursion P xs
all_in P [] each = tt
all_in P (x ∷ xs) each = (each x (inl refl), all_in P xs (λ y m. each y (inr m)))

some_in : (x : List ℕ) (xs : List (List ℕ)) → IsIn x xs → 1 ≤ length xs
some_in x [] m = absurd m
some_in x (y ∷ xs) m = omega arith

-- the demand set can be reported
pub IsDemand-demand : (supply : List ℕ) (u : List ℕ → ℤ) (p : List ℕ) → IsDemand supply (demand supply u p)
unfolding demand
IsDemand-demand supply u p =
    let best = surplus_reached supply u p in
    record {
      some = some_in best.bundle (demand supply u p) (IsIn-demand supply u p best.bundle (demanded_at supply u p best.bundle best.below best.is));
      ascending = IsAscending-filter (λ x. int_eq (surplus u p x) (indirect_utility supply u p)) (box supply) (IsAscending-box supply);
      in_box = all_in (λ x. AtMost x supply) (demand supply u p) (λ x m. (demand-IsIn supply u p x m).0);
    }
