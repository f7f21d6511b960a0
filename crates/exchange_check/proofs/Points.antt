use Rattle.std.proofs.Common.{◌≡◌, ℕ, ◌+◌, ◌-◌, ◌≤◌, ◌<◌, ◌≢◌, List, [], ◌∷◌, length, arith, ap, refl, inl, inr}
use Rattle.std.proofs.lemmas.Bool.{cases_eq}
use Prim.Native.Nat.{suc, zero}
use Rattle.lot_base.specs.Goods.{at, one_more, one_less}
use Rattle.lot_base.proofs.Vec.{length-one_more}

-- 1 where the goods are the same
pub one : ℕ → ℕ → ℕ
one zero zero = 1
one zero (suc l) = 0
one (suc k) zero = 0
one (suc k) (suc l) = one k l

pub one-same : (k : ℕ) → one k k ≡ 1
unfolding one
one-same zero = refl
one-same (suc k) = one-same k

pub one-other : (k l : ℕ) → k ≢ l → one k l ≡ 0
unfolding one
one-other zero zero n = absurd (n refl)
one-other zero (suc l) n = refl
one-other (suc k) zero n = refl
one-other (suc k) (suc l) n = let m : k ≢ l = omega arith in one-other k l m

pub at-up : (x : List ℕ) (k l : ℕ) → k < length x → at (one_more x k) l ≡ at x l + one k l
unfolding one
at-up [] k l h = absurd (omega arith)
at-up (a ∷ x) zero zero h = refl
at-up (a ∷ x) zero (suc l) h = omega arith
at-up (a ∷ x) (suc k) zero h = omega arith
at-up (a ∷ x) (suc k) (suc l) h = let i : k < length x = omega arith in at-up x k l i

pub at-down : (x : List ℕ) (k l : ℕ) → at (one_less x k) l ≡ at x l - one k l
unfolding one
at-down [] k l = omega arith
at-down (a ∷ x) zero zero = refl
at-down (a ∷ x) zero (suc l) = omega arith
at-down (a ∷ x) (suc k) zero = omega arith
at-down (a ∷ x) (suc k) (suc l) = at-down x k l

pub length-down : (x : List ℕ) (k : ℕ) → length (one_less x k) ≡ length x
length-down [] k = refl
length-down (a ∷ x) zero = refl
length-down (a ∷ x) (suc k) = ap suc (length-down x k)

-- bundles with the same quantity of each good are the same
pub same_at : (x y : List ℕ) → length x ≡ length y → ((l : ℕ) → at x l ≡ at y l) → x ≡ y
same_at [] [] e f = refl
same_at [] (b ∷ y) e f = absurd (omega arith)
same_at (a ∷ x) [] e f = absurd (omega arith)
same_at (a ∷ x) (b ∷ y) e f =
    let h : length x ≡ length y = omega arith in
    let i : a ≡ b = f 0 in
    let j = same_at x y h (λ l. f (suc l)) in cc

-- y has a unit of p and another of q
abbrev pub HasBoth : List ℕ → ℕ → ℕ → Type 0
HasBoth y p q = (m : ℕ) → one p m + one q m ≤ at y m

pub has_both : (y : List ℕ) (p q : ℕ) → 0 < at y p → one p q < at y q → HasBoth y p q
has_both y p q hp hq m = elim (cases_eq p m) [
  | inl e ↦ elim (cases_eq q m) [
    | inl f ↦ omega (arith, ap (one p) f, ap (at y) f, ap (λ t. one t m) e, ap (λ t. one t m) f, one-same m)
    | inr f ↦ omega (arith, ap (at y) e, ap (λ t. one t m) e, one-same m, one-other q m f)
  ]
  | inr e ↦ elim (cases_eq q m) [
    | inl f ↦ omega (arith, ap (at y) f, ap (λ t. one t m) f, one-same m, one-other p m e)
    | inr f ↦ omega (arith, one-other p m e, one-other q m f)
  ]
]

-- y without p and q, and with them again
pub kept_both : (y : List ℕ) (p q : ℕ) → p < length y → q < length y → HasBoth y p q → one_more (one_more (one_less (one_less y p) q) p) q ≡ y
kept_both y p q hp hq both =
    let w = one_less (one_less y p) q in
    let l1 = length-down y p in
    let l2 = length-down (one_less y p) q in
    let l3 = length-one_more w p in
    let l4 = length-one_more (one_more w p) q in
    let ip : p < length w = omega arith in
    let iq : q < length (one_more w p) = omega arith in
    same_at (one_more (one_more w p) q) y (omega arith)
    (λ m. omega (arith, both m, at-up (one_more w p) q m iq, at-up w p m ip, at-down (one_less y p) q m, at-down y p m))

-- y with a unit of k for p, or for q
pub first_for : (y : List ℕ) (k p q : ℕ) → k < length y → q < length y → HasBoth y p q → one_more (one_more (one_less (one_less y p) q) k) q ≡ one_less (one_more y k) p
first_for y k p q hk hq both =
    let w = one_less (one_less y p) q in
    let l1 = length-down y p in
    let l2 = length-down (one_less y p) q in
    let l3 = length-one_more w k in
    let l4 = length-one_more (one_more w k) q in
    let l5 = length-one_more y k in
    let l6 = length-down (one_more y k) p in
    let ik : k < length w = omega arith in
    let iq : q < length (one_more w k) = omega arith in
    same_at (one_more (one_more w k) q) (one_less (one_more y k) p) (omega arith)
    (λ m. omega (arith, both m, at-up (one_more w k) q m iq, at-up w k m ik, at-down (one_less y p) q m, at-down y p m, at-down (one_more y k) p m, at-up y k m hk))

pub second_for : (y : List ℕ) (k p q : ℕ) → k < length y → p < length y → HasBoth y p q → one_more (one_more (one_less (one_less y p) q) k) p ≡ one_less (one_more y k) q
second_for y k p q hk hp both =
    let w = one_less (one_less y p) q in
    let l1 = length-down y p in
    let l2 = length-down (one_less y p) q in
    let l3 = length-one_more w k in
    let l4 = length-one_more (one_more w k) p in
    let l5 = length-one_more y k in
    let l6 = length-down (one_more y k) q in
    let ik : k < length w = omega arith in
    let ip : p < length (one_more w k) = omega arith in
    same_at (one_more (one_more w k) p) (one_less (one_more y k) q) (omega arith)
    (λ m. omega (arith, both m, at-up (one_more w k) p m ip, at-up w k m ik, at-down (one_less y p) q m, at-down y p m, at-down (one_more y k) q m, at-up y k m hk))

-- y with units of i and k for p and q
pub both_for : (y : List ℕ) (i k p q : ℕ) → i < length y → k < length y → HasBoth y p q
    → one_more (one_more (one_less (one_less y p) q) i) k ≡ one_less (one_more (one_less (one_more y i) p) k) q
both_for y i k p q hi hk both =
    let w = one_less (one_less y p) q in
    let z = one_less (one_more y i) p in
    let l1 = length-down y p in
    let l2 = length-down (one_less y p) q in
    let l3 = length-one_more w i in
    let l4 = length-one_more (one_more w i) k in
    let l5 = length-one_more y i in
    let l6 = length-down (one_more y i) p in
    let l7 = length-one_more z k in
    let l8 = length-down (one_more z k) q in
    let ii : i < length w = omega arith in
    let ik : k < length (one_more w i) = omega arith in
    let jk : k < length z = omega arith in
    same_at (one_more (one_more w i) k) (one_less (one_more z k) q) (omega arith)
    (λ m. omega (arith, both m, at-up (one_more w i) k m ik, at-up w i m ii, at-down (one_less y p) q m, at-down y p m, at-down (one_more z k) q m, at-up z k m jk, at-down (one_more y i) p m, at-up y i m hi))

pub has_one : (x : List ℕ) (k m : ℕ) → 0 < at x k → one k m ≤ at x m
has_one x k m h = elim (cases_eq k m) [
  | inl e ↦ omega (arith, ap (at x) e, ap (λ t. one t m) e, one-same m)
  | inr e ↦ omega (arith, one-other k m e)
]
