-- The order of sets of goods as steps is total, and looking at the sets in turn finds the first of all.
use Rattle.std.proofs.Common.{◌≡◌, ◌≢◌, ◌<◌, ◌≤◌, ◌⊎◌, inl, inr, ℕ, zero, suc, ◌+◌, ◌-◌, ◌^◌, ◌/◌, ◌%◌, Bool, true, false, not, ◌&&◌, cond, Some, unwrap_or, ℤ, refl, sym, ◌∙◌, ap, arith, below_more}
use Rattle.std.proofs.lemmas.Bool.Decides.{nat_tests}
use Rattle.std.specs.Prelude.{find}
use Rattle.std.proofs.Math.Nat.{eq-or-lt_of_le}
use Rattle.std.specs.List.{range_with_len, list_all}
use Rattle.std.specs.Ordering.{nat_cmp, ordering_then, ordering_reverse, is_lt}
use Rattle.std.specs.Cmp.{IsTotalOrder}
use Rattle.std.specs.declared.cmp.Ordering.{Ordering}
use Rattle.std.specs.declared.cmp.Ordering.TheVariants.{Less, Equal, Greater}
use Rattle.std.proofs.lemmas.Cmp.{then_total, back_total, on_total, nat_cmp_total, int_cmp_total}
use Rattle.lot_base.specs.Goods.{size_of}
use Rattle.lot_base.specs.Steps.{set_cmp, is_first, first_set}

pub size-next : (goods k set : ℕ) → k < goods → size_of (goods - k) set ≡ set % 2 + size_of (goods - (k + 1)) (set / 2)
size-next goods k set below = let e : goods - k ≡ suc (goods - (k + 1)) = omega arith in ap (λ n. size_of n set) e

pub set_cmp_total : (f : ℕ → ℤ) (goods : ℕ) → IsTotalOrder (set_cmp f goods)
set_cmp_total f goods = then_total (back_total (on_total f int_cmp_total)) (then_total (on_total (size_of goods) nat_cmp_total) nat_cmp_total)

self-equal : (o : Ordering) → o ≡ ordering_reverse o → is_lt o ≡ false
self-equal Less e = absurd (let f : Less ≡ Greater = e in cc)
self-equal Equal e = refl
self-equal Greater e = refl

pub not_before-self : (f : ℕ → ℤ) (goods set : ℕ) → is_lt (set_cmp f goods set set) ≡ false
not_before-self f goods set = self-equal (set_cmp f goods set set) ((set_cmp_total f goods).antisymm set set)

less-from : (o : Ordering) → is_lt o ≡ true → o ≡ Less
less-from Less e = refl
less-from Equal e = absurd (let f : false ≡ true = e in cc)
less-from Greater e = absurd (let f : false ≡ true = e in cc)

-- what is not before the one is not before what is before that one
pub not_before-new : (f : ℕ → ℤ) (goods k new best : ℕ) → is_lt (set_cmp f goods k best) ≡ false → is_lt (set_cmp f goods new best) ≡ true → is_lt (set_cmp f goods k new) ≡ false
not_before-new f goods k new best e t = by (set_cmp f goods k new) refl
  where
    by : (o : Ordering) → set_cmp f goods k new ≡ o → is_lt o ≡ false
    by Less g = absurd (let h : set_cmp f goods k best ≡ Less = (set_cmp_total f goods).trans k new best g (less-from _ t) in let i : is_lt (set_cmp f goods k best) ≡ true = ap is_lt h in let j : false ≡ true = sym e ∙ i in cc)
    by Equal g = refl
    by Greater g = refl

equal-number : (a b : Ordering) (k n : ℕ) → ordering_then a (ordering_then b (nat_cmp k n)) ≡ Equal → k ≡ n
equal-number Less b k n e = absurd (let f : Less ≡ Equal = e in cc)
equal-number Equal Less k n e = absurd (let f : Less ≡ Equal = e in cc)
equal-number Equal Equal k n e = grind (arith, nat_tests)
equal-number Equal Greater k n e = absurd (let f : Greater ≡ Equal = e in cc)
equal-number Greater b k n e = absurd (let f : Greater ≡ Equal = e in cc)

-- of two sets that differ one is before the other
before-other : (f : ℕ → ℤ) (goods k best : ℕ) → k ≢ best → is_lt (set_cmp f goods k best) ≡ false → is_lt (set_cmp f goods best k) ≡ true
before-other f goods k best differ e = by (set_cmp f goods k best) refl
  where
    by : (o : Ordering) → set_cmp f goods k best ≡ o → is_lt (set_cmp f goods best k) ≡ true
    by Less g = absurd (let i : is_lt (set_cmp f goods k best) ≡ true = ap is_lt g in let j : false ≡ true = sym e ∙ i in cc)
    by Equal g = absurd (differ (equal-number _ _ k best g))
    by Greater g = ap is_lt ((set_cmp_total f goods).antisymm best k ∙ ap ordering_reverse g)

all-range : (test : ℕ → Bool) (a n : ℕ) → ((k : ℕ) → a ≤ k → k < a + n → test k ≡ true) → list_all test (range_with_len a n) ≡ true
all-range test a zero holds = refl
all-range test a (suc n) holds =
    let first : test a ≡ true = holds a (omega arith) (omega arith) in
    let others : list_all test (range_with_len (a + 1) n) ≡ true = all-range test (a + 1) n (λ k above below. holds k (omega arith) (omega arith)) in
    λ i. first i && others i

and-false : (b c : Bool) → c ≡ false → (b && c) ≡ false
and-false true c e = e
and-false false c e = refl

all-fails : (test : ℕ → Bool) (a n k : ℕ) → a ≤ k → k < a + n → test k ≡ false → list_all test (range_with_len a n) ≡ false
all-fails test a zero k above below fails = absurd (omega arith)
all-fails test a (suc n) k above below fails = by (eq-or-lt_of_le above) (λ later. all-fails test (a + 1) n k (omega (arith, later)) (omega arith) fails)
  where
    by : (a ≡ k) ⊎ (a < k) → (a < k → list_all test (range_with_len (a + 1) n) ≡ false) → (test a && list_all test (range_with_len (a + 1) n)) ≡ false
    by (inl same) others = let e : test a ≡ false = ap test same ∙ fails in λ i. e i && list_all test (range_with_len (a + 1) n)
    by (inr later) others = and-false (test a) _ (others later)

find-first : (test : ℕ → Bool) (a n best : ℕ) → a ≤ best → best < a + n → ((j : ℕ) → a ≤ j → j < best → test j ≡ false) → test best ≡ true → find test (range_with_len a n) ≡ Some best
find-first test a zero best above below before here = absurd (omega arith)
find-first test a (suc n) best above below before here = by (eq-or-lt_of_le above) (λ later. find-first test (a + 1) n best (omega (arith, later)) (omega arith) (λ j up down. before j (omega arith) down) here)
  where
    by : (a ≡ best) ⊎ (a < best) → (a < best → find test (range_with_len (a + 1) n) ≡ Some best) → cond (test a) (Some a) (find test (range_with_len (a + 1) n)) ≡ Some best
    by (inl same) others = let e : test a ≡ true = ap test same ∙ here in ap (λ b. cond b (Some a) (find test (range_with_len (a + 1) n))) e ∙ ap Some same
    by (inr later) others = ap (λ b. cond b (Some a) (find test (range_with_len (a + 1) n))) (before a (omega arith) later) ∙ others later

pub first_set-is : (f : ℕ → ℤ) (goods best : ℕ) → best < 2 ^ goods → ((k : ℕ) → k < 2 ^ goods → is_lt (set_cmp f goods k best) ≡ false) → first_set f goods ≡ best
first_set-is f goods best below first =
    let here : is_first f goods best ≡ true = all-range (λ other. not (is_lt (set_cmp f goods other best))) 0 (2 ^ goods) (λ k up down. ap not (first k (omega arith))) in
    let before = λ (j : ℕ) (up : 0 ≤ j) (down : j < best).
    (let differ : j ≢ best = omega arith in
    let b : is_lt (set_cmp f goods best j) ≡ true = before-other f goods j best differ (first j (omega arith)) in
    all-fails (λ other. not (is_lt (set_cmp f goods other j))) 0 (2 ^ goods) best (omega arith) (omega arith) (ap not b)) in
    ap (λ o. unwrap_or o 0) (find-first (is_first f goods) 0 (2 ^ goods) best (omega arith) (omega arith) before here)

-- what is kept as the sets are looked at in turn
pub record IsFirstBelow (f : ℕ → ℤ) (goods next best : ℕ) : Type 0 where
  pub below : best < next
  pub first : (k : ℕ) → k < next → is_lt (set_cmp f goods k best) ≡ false

pub first-changed : (f : ℕ → ℤ) (goods next best new : ℕ) → new ≡ next → is_lt (set_cmp f goods next best) ≡ true → IsFirstBelow f goods next best → IsFirstBelow f goods (next + 1) new
first-changed f goods next best new e t h =
    record {
      below = omega arith;
      first = below_more _ _ (λ k below. ap (λ b. is_lt (set_cmp f goods k b)) e ∙ not_before-new f goods k next best (h.first k below) t)
          (ap (λ b. is_lt (set_cmp f goods next b)) e ∙ not_before-self f goods next);
    }

pub first-kept : (f : ℕ → ℤ) (goods next best new : ℕ) → new ≡ best → is_lt (set_cmp f goods next best) ≡ false → IsFirstBelow f goods next best → IsFirstBelow f goods (next + 1) new
first-kept f goods next best new e t h =
    record {
      below = omega (arith, h.below);
      first = below_more _ _ (λ k below. ap (λ b. is_lt (set_cmp f goods k b)) e ∙ h.first k below) (ap (λ b. is_lt (set_cmp f goods next b)) e ∙ t);
    }

pub first-start : (f : ℕ → ℤ) (goods next : ℕ) → next ≡ 1 → IsFirstBelow f goods next 0
first-start f goods next e = record { below = omega arith; first = λ k below. let z : k ≡ 0 = omega arith in ap (λ n. is_lt (set_cmp f goods n 0)) z ∙ not_before-self f goods 0 }
