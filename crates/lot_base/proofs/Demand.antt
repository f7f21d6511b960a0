-- The least and the greatest of a function over a list of bundles, and the bundles that are demanded.
use Rattle.std.proofs.Common.{◌≡◌, ℕ, ◌≤◌, List, [], ◌∷◌, arith, ap, refl, inl, inr, sym, Bool, true, ◌∙◌}
use Rattle.std.specs.Prelude.{◌⊎◌, ℤ, ◌≤ℤ◌, filter, fold}
use Rattle.std.specs.Ordering.{int_eq}
use Rattle.std.proofs.lemmas.Int.{ints, clamps, by_lt_z}
use Rattle.std.proofs.lemmas.Bool.{cases_lt, cases_Bool, cond-true, cond-false}
use Rattle.std.proofs.lemmas.Bool.Decides.{Decides-int_eq}
use Prim.Native.Nat.{min, max}
use Rattle.lot_base.specs.Goods.{AtMost, zeros}
use Rattle.lot_base.specs.Box.{box, IsIn}
use Rattle.lot_base.specs.Economy.{surplus, greatest_value, indirect_utility, demand, IsDemanded}
use Rattle.lot_base.specs.Demands.{least_of, greatest_of}
use Rattle.lot_base.proofs.Lists.{IsIn-box, AtMost-box}

pub greatest_bounds : (f : List ℕ → ℤ) (x : List ℕ) (xs : List (List ℕ)) → IsIn x xs → f x ≤ℤ greatest_value f xs
greatest_bounds f x [] h = absurd h
greatest_bounds f x (a ∷ []) (inl e) = let i = ap f e in omega (arith, ints)
greatest_bounds f x (a ∷ []) (inr h) = absurd h
greatest_bounds f x (a ∷ (b ∷ xs)) (inl e) = let i = ap f e in omega (arith, ints, clamps)
greatest_bounds f x (a ∷ (b ∷ xs)) (inr h) = let i = greatest_bounds f x (b ∷ xs) h in omega (arith, ints, clamps)

pub record Reached (f : List ℕ → ℤ) (xs : List (List ℕ)) : Type 0 where
  pub best : List ℕ
  pub «in» : IsIn best xs
  pub is : f best ≡ greatest_value f xs

pub greatest_reached : (f : List ℕ → ℤ) (a : List ℕ) (xs : List (List ℕ)) → Reached f (a ∷ xs)
greatest_reached f a [] = record { best = a; «in» = inl refl; is = refl }
greatest_reached f a (b ∷ xs) =
    let t = greatest_reached f b xs in
    let i = t.is in
    by_lt_z (f a) (greatest_value f (b ∷ xs))
    (λ lt. record { best = t.best; «in» = inr t.«in»; is = omega (arith, ints, clamps) })
    (λ le. record { best = a; «in» = inl refl; is = omega (arith, ints, clamps) })

min_start : (f : List ℕ → ℕ) (a : ℕ) (xs : List (List ℕ)) → fold (λ b y. min b (f y)) a xs ≤ a
min_start f a [] = omega arith
min_start f a (x ∷ xs) = let i = min_start f (min a (f x)) xs in omega arith

min_below : (f : List ℕ → ℕ) (a : ℕ) (z : List ℕ) (xs : List (List ℕ)) → IsIn z xs → fold (λ b y. min b (f y)) a xs ≤ f z
min_below f a z [] h = absurd h
min_below f a z (x ∷ xs) (inl e) = let i = min_start f (min a (f x)) xs in let j = ap f e in omega arith
min_below f a z (x ∷ xs) (inr h) = min_below f (min a (f x)) z xs h

min_above : (f : List ℕ → ℕ) (a b : ℕ) (xs : List (List ℕ)) → b ≤ a → ((x : List ℕ) → IsIn x xs → b ≤ f x) → b ≤ fold (λ b y. min b (f y)) a xs
min_above f a b [] h low = h
min_above f a b (x ∷ xs) h low = let i = low x (inl refl) in min_above f (min a (f x)) b xs (omega arith) (λ y m. low y (inr m))

-- a number that is reached and bounds from below is the least
pub least_is : (f : List ℕ → ℕ) (z : List ℕ) (xs : List (List ℕ)) → IsIn z xs → ((x : List ℕ) → IsIn x xs → f z ≤ f x) → least_of f xs ≡ f z
least_is f z [] h low = absurd h
least_is f z (a ∷ xs) (inl e) low = let i = min_above f (f a) (f z) xs (low a (inl refl)) (λ y m. low y (inr m)) in let k = min_start f (f a) xs in let j = ap f e in omega arith
least_is f z (a ∷ xs) (inr h) low = let i = min_above f (f a) (f z) xs (low a (inl refl)) (λ y m. low y (inr m)) in let k = min_below f (f a) z xs h in omega arith

max_start : (f : List ℕ → ℕ) (a : ℕ) (xs : List (List ℕ)) → a ≤ fold (λ b y. max b (f y)) a xs
max_start f a [] = omega arith
max_start f a (x ∷ xs) = let i = max_start f (max a (f x)) xs in omega arith

max_above : (f : List ℕ → ℕ) (a : ℕ) (z : List ℕ) (xs : List (List ℕ)) → IsIn z xs → f z ≤ fold (λ b y. max b (f y)) a xs
max_above f a z [] h = absurd h
max_above f a z (x ∷ xs) (inl e) = let i = max_start f (max a (f x)) xs in let j = ap f e in omega arith
max_above f a z (x ∷ xs) (inr h) = max_above f (max a (f x)) z xs h

max_below : (f : List ℕ → ℕ) (a b : ℕ) (xs : List (List ℕ)) → a ≤ b → ((x : List ℕ) → IsIn x xs → f x ≤ b) → fold (λ b y. max b (f y)) a xs ≤ b
max_below f a b [] h top = h
max_below f a b (x ∷ xs) h top = let i = top x (inl refl) in max_below f (max a (f x)) b xs (omega arith) (λ y m. top y (inr m))

pub greatest_is_least : (f : List ℕ → ℕ) (z : List ℕ) (xs : List (List ℕ)) → IsIn z xs → ((x : List ℕ) → IsIn x xs → f x ≤ f z) → greatest_of f xs ≡ f z
greatest_is_least f z [] h top = absurd h
greatest_is_least f z (a ∷ xs) (inl e) top = let i = max_below f (f a) (f z) xs (top a (inl refl)) (λ y m. top y (inr m)) in let k = max_start f (f a) xs in let j = ap f e in omega arith
greatest_is_least f z (a ∷ xs) (inr h) top = let i = max_below f (f a) (f z) xs (top a (inl refl)) (λ y m. top y (inr m)) in let k = max_above f (f a) z xs h in omega arith

pub least_bounds : (f : List ℕ → ℕ) (x : List ℕ) (xs : List (List ℕ)) → IsIn x xs → least_of f xs ≤ f x
least_bounds f x [] h = absurd h
least_bounds f x (a ∷ xs) (inl e) = let i = min_start f (f a) xs in let j = ap f e in omega arith
least_bounds f x (a ∷ xs) (inr h) = min_below f (f a) x xs h

pub greatest_bounds_units : (f : List ℕ → ℕ) (x : List ℕ) (xs : List (List ℕ)) → IsIn x xs → f x ≤ greatest_of f xs
greatest_bounds_units f x [] h = absurd h
greatest_bounds_units f x (a ∷ xs) (inl e) = let i = max_start f (f a) xs in let j = ap f e in omega arith
greatest_bounds_units f x (a ∷ xs) (inr h) = max_above f (f a) x xs h

-- a member at which f takes its value over the list
pub record Found (f : List ℕ → ℕ) (xs : List (List ℕ)) (n : ℕ) : Type 0 where
  pub bundle : List ℕ
  pub «in» : IsIn bundle xs
  pub is : f bundle ≡ n

min_found : (f : List ℕ → ℕ) (a : ℕ) (xs : List (List ℕ)) → (fold (λ b y. min b (f y)) a xs ≡ a) ⊎ Found f xs (fold (λ b y. min b (f y)) a xs)
min_found f a [] = inl refl
min_found f a (x ∷ xs) = elim (min_found f (min a (f x)) xs) [
  | inr t ↦ inr (record { bundle = t.bundle; «in» = inr t.«in»; is = t.is })
  | inl e ↦ elim (cases_lt (f x) a) [
    | inl h ↦ inr (record { bundle = x; «in» = inl refl; is = omega arith })
    | inr h ↦ inl (omega arith)
  ]
]

max_found : (f : List ℕ → ℕ) (a : ℕ) (xs : List (List ℕ)) → (fold (λ b y. max b (f y)) a xs ≡ a) ⊎ Found f xs (fold (λ b y. max b (f y)) a xs)
max_found f a [] = inl refl
max_found f a (x ∷ xs) = elim (max_found f (max a (f x)) xs) [
  | inr t ↦ inr (record { bundle = t.bundle; «in» = inr t.«in»; is = t.is })
  | inl e ↦ elim (cases_lt a (f x)) [
    | inl h ↦ inr (record { bundle = x; «in» = inl refl; is = omega arith })
    | inr h ↦ inl (omega arith)
  ]
]

pub least_found : (f : List ℕ → ℕ) (z : List ℕ) (xs : List (List ℕ)) → IsIn z xs → Found f xs (least_of f xs)
least_found f z [] h = absurd h
least_found f z (x ∷ xs) h = elim (min_found f (f x) xs) [
  | inl e ↦ record { bundle = x; «in» = inl refl; is = sym e }
  | inr t ↦ record { bundle = t.bundle; «in» = inr t.«in»; is = t.is }
]

pub greatest_found : (f : List ℕ → ℕ) (z : List ℕ) (xs : List (List ℕ)) → IsIn z xs → Found f xs (greatest_of f xs)
greatest_found f z [] h = absurd h
greatest_found f z (x ∷ xs) h = elim (max_found f (f x) xs) [
  | inl e ↦ record { bundle = x; «in» = inl refl; is = sym e }
  | inr t ↦ record { bundle = t.bundle; «in» = inr t.«in»; is = t.is }
]

pub reached_in : (f : List ℕ → ℤ) (z : List ℕ) (xs : List (List ℕ)) → IsIn z xs → Reached f xs
reached_in f z [] h = absurd h
reached_in f z (a ∷ xs) h = greatest_reached f a xs

pub IsIn-filter : (t : List ℕ → Bool) (x : List ℕ) (xs : List (List ℕ)) → IsIn x xs → t x ≡ true → IsIn x (filter t xs)
IsIn-filter t x [] h e = absurd h
IsIn-filter t x (a ∷ xs) (inl i) e = rw (cond-true (t a) (a ∷ filter t xs) (filter t xs) (sym (ap t i) ∙ e)) (inl i)
IsIn-filter t x (a ∷ xs) (inr h) e = elim (cases_Bool (t a)) [
  | inl y ↦ rw (cond-true (t a) (a ∷ filter t xs) (filter t xs) y) (inr (IsIn-filter t x xs h e))
  | inr n ↦ rw (cond-false (t a) (a ∷ filter t xs) (filter t xs) n) (IsIn-filter t x xs h e)
]

pub filter-IsIn : (t : List ℕ → Bool) (x : List ℕ) (xs : List (List ℕ)) → IsIn x (filter t xs) → IsIn x xs × (t x ≡ true)
filter-IsIn t x [] h = absurd h
filter-IsIn t x (a ∷ xs) h = elim (cases_Bool (t a)) [
  | inl y ↦ kept y (rw (cond-true (t a) (a ∷ filter t xs) (filter t xs) y) at h) (filter-IsIn t x xs)
  | inr n ↦ let i = filter-IsIn t x xs (rw (cond-false (t a) (a ∷ filter t xs) (filter t xs) n) at h) in (inr i.0, i.1)
]
  where
    kept : t a ≡ true → IsIn x (a ∷ filter t xs) → (IsIn x (filter t xs) → IsIn x xs × (t x ≡ true)) → IsIn x (a ∷ xs) × (t x ≡ true)
    kept y (inl e) more = (inl e, ap t e ∙ y)
    kept y (inr m) more = let i = more m in (inr i.0, i.1)

pub surplus_bounds : (s : List ℕ) (u : List ℕ → ℤ) (p x : List ℕ) → AtMost x s → surplus u p x ≤ℤ indirect_utility s u p
unfolding indirect_utility
surplus_bounds s u p x b = greatest_bounds (surplus u p) x (box s) (IsIn-box x s b)

pub AtMost-zeros : (s : List ℕ) → AtMost (zeros s) s
AtMost-zeros [] = tt
AtMost-zeros (c ∷ s) = (omega arith, AtMost-zeros s)

-- some bundle reaches the indirect_utility
pub record Best (s : List ℕ) (u : List ℕ → ℤ) (p : List ℕ) : Type 0 where
  pub bundle : List ℕ
  pub below : AtMost bundle s
  pub is : surplus u p bundle ≡ indirect_utility s u p

pub surplus_reached : (s : List ℕ) (u : List ℕ → ℤ) (p : List ℕ) → Best s u p
unfolding indirect_utility
surplus_reached s u p =
    let t = reached_in (surplus u p) (zeros s) (box s) (IsIn-box (zeros s) s (AtMost-zeros s)) in
    record { bundle = t.best; below = AtMost-box t.best s t.«in»; is = t.is }

pub demanded_at : (s : List ℕ) (u : List ℕ → ℤ) (p x : List ℕ) → AtMost x s → surplus u p x ≡ indirect_utility s u p → IsDemanded s u p x
demanded_at s u p x b e = (b, λ y c. let t = surplus_bounds s u p y c in omega (arith, ints))

pub worth_of_demanded : (s : List ℕ) (u : List ℕ → ℤ) (p x : List ℕ) → IsDemanded s u p x → surplus u p x ≡ indirect_utility s u p
worth_of_demanded s u p x d = let t = surplus_reached s u p in let i = d.1 t.bundle t.below in let j = surplus_bounds s u p x d.0 in let k = t.is in omega (arith, ints)

-- the demand list has exactly the bundles that are demanded
pub IsIn-demand : (s : List ℕ) (u : List ℕ → ℤ) (p x : List ℕ) → IsDemanded s u p x → IsIn x (demand s u p)
unfolding demand
IsIn-demand s u p x d = IsIn-filter (λ z. int_eq (surplus u p z) (indirect_utility s u p)) x (box s) (IsIn-box x s d.0) ((Decides-int_eq (surplus u p x) (indirect_utility s u p)).1 (worth_of_demanded s u p x d))

pub demand-IsIn : (s : List ℕ) (u : List ℕ → ℤ) (p x : List ℕ) → IsIn x (demand s u p) → IsDemanded s u p x
unfolding demand
demand-IsIn s u p x h =
    let i = filter-IsIn (λ z. int_eq (surplus u p z) (indirect_utility s u p)) x (box s) h in
    demanded_at s u p x (AtMost-box x s i.0) ((Decides-int_eq (surplus u p x) (indirect_utility s u p)).0 i.1)
