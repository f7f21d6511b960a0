-- Two lists side by side, as a loop fills one of them.
use Rattle.std.proofs.Common.{◌≡◌, ◌<◌, ℕ, zero, suc, ◌+◌, List, [], ◌∷◌, ◌++◌, length, take, drop, get_or, Some, None, refl, sym, ◌∙◌, ap, subst, arith}
use Rattle.std.specs.Prelude.{slice_get}
use Rattle.std.specs.List.{AllZip, AllByRecursion}
use Rattle.clock.proofs.Append.{all-push}

pub zip-push : {A B : Type 0} (R : A → B → Type 0) (xs : List A) (ys : List B) (x : A) (y : B) → AllZip R xs ys → R x y → AllZip R (xs ++ x ∷ []) (ys ++ y ∷ [])
zip-push R [] [] x y all r = (r, tt)
zip-push R [] (v ∷ vs) x y all r = absurd all
zip-push R (u ∷ us) [] x y all r = absurd all
zip-push R (u ∷ us) (v ∷ vs) x y all r = (all.0, zip-push R us vs x y all.1 r)

-- the element at a place, and the lists in front of it and after it
pub take-next : {A : Type 0} (xs : List A) (i : ℕ) (x : A) → i < length xs → x ≡ get_or xs i x → take (i + 1) xs ≡ take i xs ++ x ∷ []
take-next xs i x below e = let n : i + 1 ≡ suc i = omega arith in ap (λ k. take k xs) n ∙ by xs i below e
  where
    by : {A : Type 0} {x : A} (xs : List A) (i : ℕ) → i < length xs → x ≡ get_or xs i x → take (suc i) xs ≡ take i xs ++ x ∷ []
    by [] i below e = absurd (omega arith)
    by (y ∷ ys) zero below e = ap (λ z. z ∷ []) (sym e)
    by (y ∷ ys) (suc i) below e = let b : i < length ys = omega arith in ap (λ zs. y ∷ zs) (by ys i b e)

-- what the first so many are, and the next one, are those up to it
pub all-next : {A : Type 0} (P : A → Type 0) (xs : List A) (i : ℕ) (x : A) → i < length xs → x ≡ get_or xs i x → AllByRecursion P (take i xs) → P x → AllByRecursion P (take (i + 1) xs)
all-next P xs i x below e all p = subst (AllByRecursion P) (sym (take-next xs i x below e)) (all-push P (take i xs) x all p)

pub around : {A : Type 0} (xs : List A) (i : ℕ) (x : A) → i < length xs → x ≡ get_or xs i x → xs ≡ take i xs ++ (x ∷ drop (i + 1) xs)
around xs i x below e = let n : suc i ≡ i + 1 = omega arith in by xs i below e ∙ ap (λ k. take i xs ++ (x ∷ drop k xs)) n
  where
    by : {A : Type 0} {x : A} (xs : List A) (i : ℕ) → i < length xs → x ≡ get_or xs i x → xs ≡ take i xs ++ (x ∷ drop (suc i) xs)
    by [] i below e = absurd (omega arith)
    by (y ∷ ys) zero below e = ap (λ z. z ∷ ys) (sym e)
    by (y ∷ ys) (suc i) below e = let b : i < length ys = omega arith in ap (λ zs. y ∷ zs) (by ys i b e)

pub take-got : {A : Type 0} (xs : List A) (i : ℕ) (x : A) → slice_get xs i ≡ Some x → take (i + 1) xs ≡ take i xs ++ x ∷ []
take-got xs i x e = let n : i + 1 ≡ suc i = omega arith in ap (λ k. take k xs) n ∙ by xs i e
  where
    by : {A : Type 0} {x : A} (xs : List A) (i : ℕ) → slice_get xs i ≡ Some x → take (suc i) xs ≡ take i xs ++ x ∷ []
    by {x} [] i e = absurd (let f : None ≡ Some x = e in cc)
    by {x} (y ∷ ys) zero e = let f : y ≡ x = cc in ap (λ z. z ∷ []) f
    by (y ∷ ys) (suc i) e = ap (λ zs. y ∷ zs) (by ys i e)

pub zip-length : {A B : Type 0} (R : A → B → Type 0) (xs : List A) (ys : List B) → AllZip R xs ys → length ys ≡ length xs
zip-length R [] [] all = refl
zip-length R [] (v ∷ vs) all = absurd all
zip-length R (u ∷ us) [] all = absurd all
zip-length R (u ∷ us) (v ∷ vs) all = ap suc (zip-length R us vs all.1)

-- of two lists side by side, what is left after the first so many of the first
pub zip-first : {A B : Type 0} (R : A → B → Type 0) (xs : List A) (ys rest : List B) (i : ℕ) (x : A) (y : B) → i < length xs → x ≡ get_or xs i x → AllZip R (drop i xs) ys → ys ≡ y ∷ rest → R x y
zip-first R [] ys rest i x y below e all is = absurd (omega arith)
zip-first R (z ∷ xs) ys rest zero x y below e all is = subst (λ w. R w y) (sym e) (subst (AllZip R (z ∷ xs)) is all).0
zip-first R (z ∷ xs) ys rest (suc i) x y below e all is = zip-first R xs ys rest i x y (omega arith) e all is

pub zip-rest : {A B : Type 0} (R : A → B → Type 0) (xs : List A) (ys rest : List B) (i : ℕ) (y : B) → i < length xs → AllZip R (drop i xs) ys → ys ≡ y ∷ rest → AllZip R (drop (i + 1) xs) rest
zip-rest {A} {B} R xs ys rest i y below all is = let n : suc i ≡ i + 1 = omega arith in subst (λ k. AllZip R (drop k xs) rest) n (by xs i below (subst (AllZip R (drop i xs)) is all))
  where
    by : (xs : List A) (i : ℕ) → i < length xs → AllZip R (drop i xs) (y ∷ rest) → AllZip R (drop (suc i) xs) rest
    by [] i below all = absurd (omega arith)
    by (z ∷ xs) zero below all = all.1
    by (z ∷ xs) (suc i) below all = by xs i (omega arith) all

pub zip-some : {A B : Type 0} (R : A → B → Type 0) (xs : List A) (ys : List B) (i : ℕ) → i < length xs → AllZip R (drop i xs) ys → 0 < length ys
zip-some R [] ys i below all = absurd (omega arith)
zip-some R (z ∷ xs) [] zero below all = absurd all
zip-some R (z ∷ xs) (y ∷ ys) zero below all = omega arith
zip-some R (z ∷ xs) ys (suc i) below all = zip-some R xs ys i (omega arith) all
