-- Membership of lists of bundles: the box lists exactly the bundles within the supply.
use Rattle.std.proofs.Common.{◌≡◌, ℕ, ◌+◌, ◌≤◌, ◌<◌, ◌≢◌, List, [], ◌∷◌, ◌++◌, arith, ap, refl, inl, inr, subst, sym}
use Rattle.std.specs.Prelude.{◌⊎◌, map, flat_map}
use Rattle.std.proofs.lemmas.List.Concat.{flat_map-cons}
use Prim.Native.Nat.{suc, zero}
use Rattle.lot_base.specs.Goods.{AtMost}
use Rattle.std.specs.List.{range_with_len}
use Rattle.lot_base.specs.Box.{box, IsIn}

pub IsIn-append_left : (x : List ℕ) (xs ys : List (List ℕ)) → IsIn x xs → IsIn x (xs ++ ys)
IsIn-append_left x [] ys h = absurd h
IsIn-append_left x (a ∷ xs) ys (inl e) = inl e
IsIn-append_left x (a ∷ xs) ys (inr h) = inr (IsIn-append_left x xs ys h)

pub IsIn-append_right : (x : List ℕ) (xs ys : List (List ℕ)) → IsIn x ys → IsIn x (xs ++ ys)
IsIn-append_right x [] ys h = h
IsIn-append_right x (a ∷ xs) ys h = inr (IsIn-append_right x xs ys h)

pub IsIn-append : (x : List ℕ) (xs ys : List (List ℕ)) → IsIn x (xs ++ ys) → IsIn x xs ⊎ IsIn x ys
IsIn-append x [] ys h = inr h
IsIn-append x (a ∷ xs) ys (inl e) = inl (inl e)
IsIn-append x (a ∷ xs) ys (inr h) = elim (IsIn-append x xs ys h) [ inl i ↦ inl (inr i) | inr i ↦ inr i ]

IsIn-row : (q : ℕ) (x : List ℕ) (xs : List (List ℕ)) → IsIn x xs → IsIn (q ∷ x) (map (λ ys. q ∷ ys) xs)
IsIn-row q x [] h = absurd h
IsIn-row q x (a ∷ xs) (inl e) = inl (ap (λ z. q ∷ z) e)
IsIn-row q x (a ∷ xs) (inr h) = inr (IsIn-row q x xs h)

pub record InRow (q : ℕ) (z : List ℕ) (xs : List (List ℕ)) : Type 0 where
  pub rest : List ℕ
  pub is : z ≡ q ∷ rest
  pub «in» : IsIn rest xs

pub row-IsIn : (q : ℕ) (z : List ℕ) (xs : List (List ℕ)) → IsIn z (map (λ ys. q ∷ ys) xs) → InRow q z xs
row-IsIn q z [] h = absurd h
row-IsIn q z (a ∷ xs) (inl e) = record { rest = a; is = e; «in» = inl refl }
row-IsIn q z (a ∷ xs) (inr h) = let t = row-IsIn q z xs h in record { rest = t.rest; is = t.is; «in» = inr t.«in» }

IsIn-rows : (a n q : ℕ) (x : List ℕ) (xs : List (List ℕ)) → a ≤ q → q < a + n → IsIn x xs → IsIn (q ∷ x) (flat_map (λ r. map (λ ys. r ∷ ys) xs) (range_with_len a n))
IsIn-rows a zero q x xs i j h = absurd (omega arith)
IsIn-rows a (suc n) q x xs i j h = elim (dec_eq a q) [
  | inl e ↦ rw flat_map-cons (let P : ℕ → Type 0 = λ r. IsIn (q ∷ x) (map (λ ys. r ∷ ys) xs) in IsIn-append_left (q ∷ x) (map (λ ys. a ∷ ys) xs) (flat_map (λ r. map (λ ys. r ∷ ys) xs) (range_with_len (a + 1) n)) (subst P (sym e) (IsIn-row q x xs h)))
  | inr d ↦ rw flat_map-cons (IsIn-append_right (q ∷ x) (map (λ ys. a ∷ ys) xs) (flat_map (λ r. map (λ ys. r ∷ ys) xs) (range_with_len (a + 1) n)) (IsIn-rows (a + 1) n q x xs (omega arith) (omega arith) h))
]
  where
    dec_eq : (a q : ℕ) → (a ≡ q) ⊎ (a ≢ q)
    dec_eq a q = grind arith

pub record InRows (a n : ℕ) (z : List ℕ) (xs : List (List ℕ)) : Type 0 where
  pub first : ℕ
  pub rest : List ℕ
  pub is : z ≡ first ∷ rest
  pub least : a ≤ first
  pub below : first < a + n
  pub «in» : IsIn rest xs

pub rows-IsIn : (a n : ℕ) (z : List ℕ) (xs : List (List ℕ)) → IsIn z (flat_map (λ r. map (λ ys. r ∷ ys) xs) (range_with_len a n)) → InRows a n z xs
rows-IsIn a zero z xs h = absurd h
rows-IsIn a (suc n) z xs h = elim (IsIn-append z (map (λ ys. a ∷ ys) xs) (flat_map (λ r. map (λ ys. r ∷ ys) xs) (range_with_len (a + 1) n)) (rw flat_map-cons at h)) [
  | inl i ↦ let t = row-IsIn a z xs i in record { first = a; rest = t.rest; is = t.is; least = omega arith; below = omega arith; «in» = t.«in» }
  | inr i ↦ let t = rows-IsIn (a + 1) n z xs i in record { first = t.first; rest = t.rest; is = t.is; least = (let b = t.least in omega arith); below = (let b = t.below in omega arith); «in» = t.«in» }
]

pub IsIn-box : (x s : List ℕ) → AtMost x s → IsIn x (box s)
IsIn-box [] [] b = inl refl
IsIn-box [] (c ∷ s) b = absurd b
IsIn-box (a ∷ x) [] b = absurd b
IsIn-box (a ∷ x) (c ∷ s) b = IsIn-rows 0 (c + 1) a x (box s) (omega arith) (let t = b.0 in omega arith) (IsIn-box x s b.1)

pub AtMost-box : (x s : List ℕ) → IsIn x (box s) → AtMost x s
AtMost-box x [] (inl e) = let P : List ℕ → Type 0 = λ z. AtMost z [] in subst P (sym e) tt
AtMost-box x [] (inr h) = absurd h
AtMost-box x (c ∷ s) h =
    let t = rows-IsIn 0 (c + 1) x (box s) h in
    let P : List ℕ → Type 0 = λ z. AtMost z (c ∷ s) in
    let b = t.below in
    subst P (sym t.is) (omega arith, AtMost-box t.rest s t.«in»)
