-- The first of all sets is the step set, and the step set is one.
use Rattle.std.proofs.Common.{◌≡◌, ◌<◌, ◌≤◌, ℕ, zero, suc, ◌+◌, ◌^◌, Bool, true, false, ℤ, refl, sym, subst, arith}
use Rattle.std.specs.Prelude.{◌≤ℤ◌, ◌<ℤ◌}
use Rattle.std.specs.Ordering.{nat_cmp, int_cmp, ordering_then, is_lt, MatchOrdering}
use Rattle.std.specs.declared.cmp.Ordering.{Ordering}
use Rattle.std.specs.declared.cmp.Ordering.TheVariants.{Less, Equal, Greater}
use Rattle.std.proofs.lemmas.Cmp.{ranked, int_ranked}
use Rattle.std.proofs.lemmas.Int.{ints}
use Rattle.std.proofs.lemmas.Nat.{pow_pos}
use Rattle.lot_base.specs.Goods.{size_of}
use Rattle.lot_base.specs.Steps.{IsStepSet, set_cmp, first_set}
use Rattle.lot_base.proofs.StepOrder.{IsFirstBelow, first-changed, first-kept, first-start, first_set-is}

-- what it says of two sets, by their excess, size and number, that the other is not before the one
record NotBefore (x y : ℤ) (k l m n : ℕ) : Type 0 where
  pub excess : y ≤ℤ x
  pub size : y ≡ x → l ≤ k
  pub number : y ≡ x → k ≡ l → n ≤ m

not_before : (x y : ℤ) (k l m n : ℕ) (a b c : Ordering) → MatchOrdering a (x <ℤ y) (x ≡ y) (y <ℤ x) → MatchOrdering b (k < l) (k ≡ l) (l < k) → MatchOrdering c (m < n) (m ≡ n) (n < m)
    → is_lt (ordering_then a (ordering_then b c)) ≡ false → NotBefore x y k l m n
not_before x y k l m n Less b c p q r e = absurd (let f : true ≡ false = e in cc)
not_before x y k l m n Equal Less c p q r e = absurd (let f : true ≡ false = e in cc)
not_before x y k l m n Equal Equal Less p q r e = absurd (let f : true ≡ false = e in cc)
not_before x y k l m n Equal Equal Equal p q r e = record { excess = omega (arith, ints, p); size = λ _. omega arith; number = λ _ _. omega arith }
not_before x y k l m n Equal Equal Greater p q r e = record { excess = omega (arith, ints, p); size = λ _. omega arith; number = λ _ _. omega arith }
not_before x y k l m n Equal Greater c p q r e = record { excess = omega (arith, ints, p); size = λ _. omega arith; number = λ _ same. omega arith }
not_before x y k l m n Greater b c p q r e = record { excess = omega (arith, ints, p); size = λ same. omega (arith, ints, p, same); number = λ same _. omega (arith, ints, p, same) }

set-not_before : (f : ℕ → ℤ) (goods set other : ℕ) → is_lt (set_cmp f goods other set) ≡ false → NotBefore (f set) (f other) (size_of goods other) (size_of goods set) other set
set-not_before f goods set other e =
    not_before (f set) (f other) (size_of goods other) (size_of goods set) other set (int_cmp (f set) (f other)) (nat_cmp (size_of goods other) (size_of goods set)) (nat_cmp other set)
    (int_ranked (f set) (f other) _ refl) (ranked (size_of goods other) (size_of goods set) _ refl) (ranked other set _ refl) e

-- a set before which no other is, is the step set
pub first-is_step_set : (f : ℕ → ℤ) (goods set : ℕ) → set < 2 ^ goods → ((other : ℕ) → other < 2 ^ goods → is_lt (set_cmp f goods other set) ≡ false) → IsStepSet goods f set
first-is_step_set f goods set below first =
    record {
      is_set = below;
      greatest = λ other lt. (set-not_before f goods set other (first other lt)).excess;
      fewest = λ other lt same. (set-not_before f goods set other (first other lt)).size same;
      smallest = λ other lt same size. (set-not_before f goods set other (first other lt)).number same size;
    }

-- of so many sets one is the first
record First (f : ℕ → ℤ) (goods next : ℕ) : Type 0 where
  pub best : ℕ
  pub first : IsFirstBelow f goods next best

first-below : (f : ℕ → ℤ) (goods n : ℕ) → First f goods (n + 1)
first-below f goods zero = record { best = 0; first = first-start f goods 1 refl }
first-below f goods (suc n) = with-next (first-below f goods n)
  where
    with-next : First f goods (n + 1) → First f goods (suc n + 1)
    with-next h =
        let e : n + 1 + 1 ≡ suc n + 1 = omega arith in
        subst (First f goods) e (by (is_lt (set_cmp f goods (n + 1) h.best)) refl)
      where
        by : (b : Bool) → is_lt (set_cmp f goods (n + 1) h.best) ≡ b → First f goods (n + 1 + 1)
        by true t = record { best = n + 1; first = first-changed f goods (n + 1) h.best (n + 1) refl t h.first }
        by false t = record { best = h.best; first = first-kept f goods (n + 1) h.best h.best refl t h.first }

pub first_set-step_set : (goods : ℕ) (f : ℕ → ℤ) → IsStepSet goods f (first_set f goods)
first_set-step_set goods f = by (2 ^ goods) refl (pow_pos goods)
  where
    by : (n : ℕ) → n ≡ 2 ^ goods → 0 < n → IsStepSet goods f (first_set f goods)
    by zero e lt = absurd (omega arith)
    by (suc n) e lt =
        let h = first-below f goods n in
        let below : h.best < 2 ^ goods = omega (arith, h.first.below) in
        let first = λ (k : ℕ) (less : k < 2 ^ goods). h.first.first k (omega arith) in
        subst (IsStepSet goods f) (sym (first_set-is f goods h.best below first)) (first-is_step_set f goods h.best below first)

pub step_set-unique : (goods : ℕ) (f : ℕ → ℤ) (set other : ℕ) → IsStepSet goods f set → IsStepSet goods f other → set ≡ other
step_set-unique goods f set other s o =
    let a = s.greatest other o.is_set in
    let b = o.greatest set s.is_set in
    let e : f set ≡ f other = omega (arith, ints) in
    let k = s.fewest other o.is_set (sym e) in
    let l = o.fewest set s.is_set e in
    let size : size_of goods set ≡ size_of goods other = omega arith in
    let m = s.smallest other o.is_set (sym e) (sym size) in
    let n = o.smallest set s.is_set e size in
    omega arith
