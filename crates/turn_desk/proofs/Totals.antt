-- Sums over views: the total after a change of one of them, what one or two of them give to it, and the ranges of tickets and places.
use Rattle.std.proofs.Common.{◌≡◌, ◌≢◌, ℕ, zero, suc, ◌+◌, ◌<◌, ◌≤◌, List, [], ◌∷◌, ◌++◌, set, refl, sym, ap, arith}
use Rattle.std.proofs.lemmas.Bool.Decides.{nat_tests}
use Rattle.std.specs.Prelude.{◌==◌}
use mathlib.Core.Option.{some, some-injective, some-ne-none}
use lib.ListN.{get_elem?}
use Rattle.turn_desk.specs.Histories.{total, one_if, between, times_at}

module _ {A : Type 0} (f : A → ℕ) where
  pub total_set : (xs : List A) (i : ℕ) (v w : A) → get_elem? xs i ≡ some v → total f (set xs i w) + f v ≡ total f xs + f w
  total_set [] i v w e = absurd (some-ne-none v (sym e))
  total_set (x ∷ xs) zero v w e = let h : f x ≡ f v = ap f (some-injective x v e) in omega arith
  total_set (x ∷ xs) (suc i) v w e = let h = total_set xs i v w e in omega arith

  pub total_snoc : (xs : List A) (w : A) → total f (xs ++ w ∷ []) ≡ total f xs + f w
  total_snoc [] w = omega arith
  total_snoc (x ∷ xs) w = let h = total_snoc xs w in omega arith

  pub total_at : (xs : List A) (i : ℕ) (v : A) → get_elem? xs i ≡ some v → f v ≤ total f xs
  total_at [] i v e = absurd (some-ne-none v (sym e))
  total_at (x ∷ xs) zero v e = let h : f x ≡ f v = ap f (some-injective x v e) in omega arith
  total_at (x ∷ xs) (suc i) v e = let h = total_at xs i v e in omega arith

  pub total_two : (xs : List A) (i j : ℕ) (v u : A) → j ≢ i → get_elem? xs i ≡ some v → get_elem? xs j ≡ some u → f v + f u ≤ total f xs
  total_two [] i j v u n e d = absurd (some-ne-none v (sym e))
  total_two (x ∷ xs) zero zero v u n e d = absurd (n refl)
  total_two (x ∷ xs) zero (suc j) v u n e d = let h : f x ≡ f v = ap f (some-injective x v e) in let k = total_at xs j u d in omega arith
  total_two (x ∷ xs) (suc i) zero v u n e d = let h : f x ≡ f u = ap f (some-injective x u d) in let k = total_at xs i v e in omega arith
  total_two (x ∷ xs) (suc i) (suc j) v u n e d = let h = total_two xs i j v u (λ p. n (ap suc p)) e d in omega arith

  pub same_total : (xs : List A) (i : ℕ) (v w : A) → get_elem? xs i ≡ some v → f w ≡ f v → total f (set xs i w) ≡ total f xs
  same_total xs i v w e s = let h = total_set xs i v w e in omega arith

  -- where all others count for nothing
  pub total_none : (xs : List A) → ((j : ℕ) (u : A) → get_elem? xs j ≡ some u → f u ≡ 0) → total f xs ≡ 0
  total_none [] h = refl
  total_none (x ∷ xs) h = let a = h 0 x refl in let b = total_none xs (λ j u d. h (suc j) u d) in omega arith

  pub total_only : (xs : List A) (i : ℕ) (v : A) → get_elem? xs i ≡ some v → ((j : ℕ) (u : A) → j ≢ i → get_elem? xs j ≡ some u → f u ≡ 0) → total f xs ≡ f v
  total_only [] i v e h = absurd (some-ne-none v (sym e))
  total_only (x ∷ xs) zero v e h = let s : f x ≡ f v = ap f (some-injective x v e) in let k = total_none xs (λ j u d. h (suc j) u (λ p. omega arith) d) in omega arith
  total_only (x ∷ xs) (suc i) v e h = let k = total_only xs i v e (λ j u n d. h (suc j) u (λ p. n (omega arith)) d) in let a = h 0 x (λ p. omega arith) refl in omega arith

module _ {A : Type 0} (f g : A → ℕ) where
  pub total_le : (xs : List A) → ((j : ℕ) (u : A) → get_elem? xs j ≡ some u → f u ≤ g u) → total f xs ≤ total g xs
  total_le [] h = omega arith
  total_le (x ∷ xs) h = let k = total_le xs (λ j u e. h (suc j) u e) in let a = h 0 x refl in omega arith

  pub total_le_at : (xs : List A) (i : ℕ) (v : A) → get_elem? xs i ≡ some v → ((j : ℕ) (u : A) → get_elem? xs j ≡ some u → f u ≤ g u) → total f xs + g v ≤ total g xs + f v
  total_le_at [] i v e h = absurd (some-ne-none v (sym e))
  total_le_at (x ∷ xs) zero v e h = let s = some-injective x v e in let a : f x ≡ f v = ap f s in let b : g x ≡ g v = ap g s in let k = total_le xs (λ j u d. h (suc j) u d) in omega arith
  total_le_at (x ∷ xs) (suc i) v e h = let k = total_le_at xs i v e (λ j u d. h (suc j) u d) in let a = h 0 x refl in omega arith

pub between_next : (a b n : ℕ) → a ≤ b → between a b n + one_if (n == b) ≡ between a (b + 1) n
between_next a b n le = grind (arith, nat_tests, one_if)

pub between_first : (a b n : ℕ) → a < b → between (a + 1) b n + one_if (n == a) ≡ between a b n
between_first a b n lt = grind (arith, nat_tests, one_if)

pub between_in : (a b n : ℕ) → 1 ≤ between a b n → (a ≤ n) × (n < b)
between_in a b n h = grind (arith, nat_tests, one_if)

pub between_one : (a b n : ℕ) → between a b n ≤ 1
between_one a b n = grind (arith, nat_tests, one_if)

pub one_here : (n : ℕ) → one_if (n == n) ≡ 1
one_here n = grind (arith, nat_tests)

pub times_at-append : {E : Type 0} (k : ℕ) (xs ys : List (ℕ × E)) → times_at k (xs ++ ys) ≡ times_at k xs + times_at k ys
times_at-append k [] ys = omega arith
times_at-append k (x ∷ xs) ys = let h = times_at-append k xs ys in omega arith
