-- Lists in a loop: a table that is filled, and a list that is searched.
use Rattle.std.proofs.Common.{◌≡◌, ◌≤◌, ◌<◌, ◌⊎◌, inl, inr, ℕ, zero, suc, ◌+◌, Bool, true, false, cond, List, [], ◌∷◌, ◌++◌, length, drop, Some, None, refl, sym, ◌∙◌, ap, subst, arith, slice_index_or, get_or, length-append}
use Rattle.std.specs.Prelude.{find, slice_get}
use Rattle.std.specs.List.{AllByRecursion}
use Rattle.std.proofs.Math.Nat.{eq-or-lt_of_le}

-- the first so many truth values are those of a function
pub record IsFilled (f : ℕ → Bool) (n : ℕ) (xs : List Bool) : Type 0 where
  pub count : length xs ≡ n
  pub each : (k : ℕ) → k < n → slice_index_or xs k false ≡ f k

pub filled-none : (f : ℕ → Bool) → IsFilled f 0 []
filled-none f = record { count = refl; each = λ k below. absurd (omega arith) }

get_or-front : {X : Type 0} (xs ys : List X) (k : ℕ) (d : X) → k < length xs → get_or (xs ++ ys) k d ≡ get_or xs k d
get_or-front [] ys k d below = absurd (omega arith)
get_or-front (x ∷ xs) ys zero d below = refl
get_or-front (x ∷ xs) ys (suc k) d below = get_or-front xs ys k d (omega arith)

get_or-end : {X : Type 0} (xs : List X) (x d : X) → get_or (xs ++ x ∷ []) (length xs) d ≡ x
get_or-end [] x d = refl
get_or-end (y ∷ xs) x d = get_or-end xs x d

-- a list with one element more, at a place
pub get_or-more : {X : Type 0} (P : ℕ → X → Type 0) (xs : List X) (x d : X) (n : ℕ) → length xs ≡ n → ((k : ℕ) → k < n → P k (get_or xs k d)) → P n x → (k : ℕ) → k < n + 1 → P k (get_or (xs ++ x ∷ []) k d)
get_or-more {X} P xs x d n count each here k below = by (eq-or-lt_of_le (let le : k ≤ n = omega arith in le))
  where
    by : (k ≡ n) ⊎ (k < n) → P k (get_or (xs ++ x ∷ []) k d)
    by (inl same) =
        subst (λ (j : ℕ). P j (get_or (xs ++ x ∷ []) j d)) (count ∙ sym same)
        (subst (λ (y : X). P (length xs) y) (sym (get_or-end xs x d)) (subst (λ (j : ℕ). P j x) (sym count) here))
    by (inr less) = subst (λ (y : X). P k y) (sym (get_or-front xs (x ∷ []) k d (omega arith))) (each k less)

pub filled-more : (f : ℕ → Bool) (n : ℕ) (xs : List Bool) (x : Bool) → IsFilled f n xs → x ≡ f n → IsFilled f (n + 1) (xs ++ x ∷ [])
filled-more f n xs x h here =
    record {
      count = (let e = length-append xs (x ∷ []) in let c = h.count in omega arith);
      each = get_or-more (λ k y. y ≡ f k) xs x false n h.count h.each here;
    }

-- the search from a place on
pub find-hit : {X : Type 0} (test : X → Bool) (xs : List X) (i : ℕ) (x : X) → slice_get xs i ≡ Some x → test x ≡ true → find test (drop i xs) ≡ Some x
find-hit test [] i x at pass = absurd (let f : None ≡ Some x = at in cc)
find-hit test (y ∷ xs) zero x at pass = let s : y ≡ x = cc in ap (λ b. cond b (Some y) (find test xs)) (ap test s ∙ pass) ∙ at
find-hit test (y ∷ xs) (suc i) x at pass = find-hit test xs i x at pass

pub find-miss : {X : Type 0} (test : X → Bool) (xs : List X) (i : ℕ) (x : X) → slice_get xs i ≡ Some x → test x ≡ false → find test (drop i xs) ≡ find test (drop (i + 1) xs)
find-miss test [] i x at fail = absurd (let f : None ≡ Some x = at in cc)
find-miss test (y ∷ xs) zero x at fail = let s : y ≡ x = cc in ap (λ b. cond b (Some y) (find test xs)) (ap test s ∙ fail)
find-miss test (y ∷ xs) (suc i) x at fail = find-miss test xs i x at fail ∙ (let e : suc (i + 1) ≡ suc i + 1 = omega arith in ap (λ n. find test (drop n (y ∷ xs))) e)

pub find-end : {X : Type 0} (test : X → Bool) (xs : List X) (i : ℕ) → length xs ≤ i → find test (drop i xs) ≡ None
find-end test [] zero long = refl
find-end test [] (suc i) long = refl
find-end test (x ∷ xs) zero long = absurd (omega arith)
find-end test (x ∷ xs) (suc i) long = find-end test xs i (omega arith)

pub all-at : {X : Type 0} (P : X → Type 0) (xs : List X) (i : ℕ) (x : X) → AllByRecursion P xs → slice_get xs i ≡ Some x → P x
all-at P [] i x all at = absurd (let f : None ≡ Some x = at in cc)
all-at {X} P (y ∷ xs) zero x all at = let s : y ≡ x = cc in subst (λ (z : X). P z) s all.0
all-at P (y ∷ xs) (suc i) x all at = all-at P xs i x all.1 at
