-- The exchange property of a valuation over a small box, by a test of every pair of bundles and every good.
use Rattle.std.proofs.Common.{◌≡◌, ◌≤◌, ◌<◌, ℕ, suc, zero, ◌+◌, Bool, true, false, ◌&&◌, List, [], ◌∷◌, length, refl, ap, ◌∙◌, arith, inl, inr}
use Rattle.std.specs.Prelude.{◌⊎◌, ◌||◌, nat_le, nat_lt, int_le, ℤ, ◌+ℤ◌, ◌≤ℤ◌}
use Rattle.std.specs.List.{list_all, list_any, range_with_len}
use Rattle.std.proofs.lemmas.Bool.Decides.{nat_tests}
use Rattle.std.proofs.lemmas.Int.{ints}
use Rattle.lot_base.specs.Goods.{at, one_more, one_less}
use Rattle.lot_base.specs.Box.{box, IsIn}
use Rattle.lot_base.specs.Economy.{NoWorse, IsStrongSubstitutes}
use Rattle.lot_base.proofs.Lists.{IsIn-box}
use Rattle.lot_base.proofs.Vec.{length-below, within_from_at}
use Rattle.lot_base.proofs.Within.{both}

-- a pair of bundles is worth no more than another pair
abbrev no_worse : (List ℕ → ℤ) → List ℕ → List ℕ → List ℕ → List ℕ → Bool
no_worse u x y x' y' = int_le (u x +ℤ u y) (u x' +ℤ u y')

-- a unit of good k can be given from x to y, alone or against a unit of another good
abbrev exchanges_at : ℕ → (List ℕ → ℤ) → List ℕ → List ℕ → ℕ → Bool
exchanges_at goods u x y k =
    nat_le (at x k) (at y k)
    || (no_worse u x y (one_less x k) (one_more y k)
    || list_any (λ l. nat_lt (at x l) (at y l) && no_worse u x y (one_more (one_less x k) l) (one_less (one_more y k) l)) (range_with_len 0 goods))

abbrev pub exchanges : List ℕ → (List ℕ → ℤ) → Bool
exchanges supply u = list_all (λ x. list_all (λ y. list_all (exchanges_at (length supply) u x y) (range_with_len 0 (length supply))) (box supply)) (box supply)

each-bundle : (test : List ℕ → Bool) (xs : List (List ℕ)) (x : List ℕ) → list_all test xs ≡ true → IsIn x xs → test x ≡ true
each-bundle test [] x all m = absurd m
each-bundle test (y ∷ xs) x all (inl e) = ap test e ∙ (both (test y) (list_all test xs) all).0
each-bundle test (y ∷ xs) x all (inr m) = each-bundle test xs x (both (test y) (list_all test xs) all).1 m

each-number : (test : ℕ → Bool) (a n k : ℕ) → list_all test (range_with_len a n) ≡ true → a ≤ k → k < a + n → test k ≡ true
each-number test a zero k all low high = absurd (omega arith)
each-number test a (suc n) k all low high = elim (first_or_later a k low) [
  | inl e ↦ ap test e ∙ (both (test a) (list_all test (range_with_len (a + 1) n)) all).0
  | inr h ↦ each-number test (a + 1) n k (both (test a) (list_all test (range_with_len (a + 1) n)) all).1 h (omega arith)
]
  where
    first_or_later : (a k : ℕ) → a ≤ k → (k ≡ a) ⊎ (a + 1 ≤ k)
    first_or_later a k low = grind arith

either : (a b : Bool) → (a || b) ≡ true → (a ≡ true) ⊎ (b ≡ true)
either true b e = inl refl
either false b e = inr e

some-number : (test : ℕ → Bool) (a n : ℕ) → list_any test (range_with_len a n) ≡ true → (k : ℕ) × (test k ≡ true)
some-number test a zero any = absurd (let e : false ≡ true = any in cc)
some-number test a (suc n) any = elim (either (test a) (list_any test (range_with_len (a + 1) n)) any) [
  | inl here ↦ (a, here)
  | inr later ↦ some-number test (a + 1) n later
]

from-nat_le : (a b : ℕ) → nat_le a b ≡ true → a ≤ b
from-nat_le a b e = grind (arith, nat_tests)

from-nat_lt : (a b : ℕ) → nat_lt a b ≡ true → a < b
from-nat_lt a b e = grind (arith, nat_tests)

from-int_le : (a b : ℤ) → int_le a b ≡ true → a ≤ℤ b
from-int_le a b e = grind (arith, ints)

pub exchanges-strong : (supply : List ℕ) (u : List ℕ → ℤ) → exchanges supply u ≡ true → IsStrongSubstitutes supply u
exchanges-strong supply u all x y k in_x in_y more =
    let goods = length supply in
    let row = each-bundle (λ x. list_all (λ y. list_all (exchanges_at goods u x y) (range_with_len 0 goods)) (box supply)) (box supply) x all (IsIn-box x supply in_x) in
    let cell = each-bundle (λ y. list_all (exchanges_at goods u x y) (range_with_len 0 goods)) (box supply) y row (IsIn-box y supply in_y) in
    let same = length-below x supply in_x in
    let good = within_from_at x k (omega arith) in
    from_test (each-number (exchanges_at goods u x y) 0 goods k cell (omega arith) (omega arith))
  where
    given : ℕ → Bool
    given l = nat_lt (at x l) (at y l) && no_worse u x y (one_more (one_less x k) l) (one_less (one_more y k) l)

    from_test : exchanges_at (length supply) u x y k ≡ true →
        NoWorse u x y (one_less x k) (one_more y k) ⊎ ((l : ℕ) × (at x l < at y l) × NoWorse u x y (one_more (one_less x k) l) (one_less (one_more y k) l))
    from_test e = elim (either (nat_le (at x k) (at y k)) (no_worse u x y (one_less x k) (one_more y k) || list_any given (range_with_len 0 (length supply))) e) [
      | inl less ↦ absurd (let h = from-nat_le (at x k) (at y k) less in omega arith)
      | inr f ↦ elim (either (no_worse u x y (one_less x k) (one_more y k)) (list_any given (range_with_len 0 (length supply))) f) [
        | inl alone ↦ inl (from-int_le (u x +ℤ u y) (u (one_less x k) +ℤ u (one_more y k)) alone)
        | inr against ↦
            let t = some-number given 0 (length supply) against in
            let b = both (nat_lt (at x t.0) (at y t.0)) (no_worse u x y (one_more (one_less x k) t.0) (one_less (one_more y k) t.0)) t.1 in
            inr (t.0, from-nat_lt (at x t.0) (at y t.0) b.0, from-int_le (u x +ℤ u y) (u (one_more (one_less x k) t.0) +ℤ u (one_less (one_more y k) t.0)) b.1)
      ]
    ]
