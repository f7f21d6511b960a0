-- Units that move from one bundle to another, one after the other.
use Rattle.std.proofs.Common.{◌≡◌, ◌≢◌, ◌≤◌, ◌<◌, ℕ, ◌-◌, List, [], ◌∷◌, length, arith, ap, refl}
use Rattle.std.specs.Prelude.{◌⊎◌}
use Prim.Native.Nat.{suc, zero}
use Rattle.lot_base.specs.Goods.{at, one_less, one_more}

pub one_less-one_less : (x : List ℕ) (k l : ℕ) → one_less (one_less x k) l ≡ one_less (one_less x l) k
one_less-one_less [] k l = refl
one_less-one_less (a ∷ x) zero zero = refl
one_less-one_less (a ∷ x) zero (suc l) = refl
one_less-one_less (a ∷ x) (suc k) zero = refl
one_less-one_less (a ∷ x) (suc k) (suc l) = ap (λ z. a ∷ z) (one_less-one_less x k l)

pub one_more-one_more : (x : List ℕ) (k l : ℕ) → one_more (one_more x k) l ≡ one_more (one_more x l) k
one_more-one_more [] k l = refl
one_more-one_more (a ∷ x) zero zero = refl
one_more-one_more (a ∷ x) zero (suc l) = refl
one_more-one_more (a ∷ x) (suc k) zero = refl
one_more-one_more (a ∷ x) (suc k) (suc l) = ap (λ z. a ∷ z) (one_more-one_more x k l)

pub one_less-one_more : (x : List ℕ) (k l : ℕ) → l ≢ k → one_less (one_more x k) l ≡ one_more (one_less x l) k
one_less-one_more [] k l n = refl
one_less-one_more (a ∷ x) zero zero n = absurd (n refl)
one_less-one_more (a ∷ x) zero (suc l) n = refl
one_less-one_more (a ∷ x) (suc k) zero n = refl
one_less-one_more (a ∷ x) (suc k) (suc l) n = let m : l ≢ k = omega arith in ap (λ z. a ∷ z) (one_less-one_more x k l m)

pub one_less-one_more_same : (x : List ℕ) (k : ℕ) → one_less (one_more x k) k ≡ x
one_less-one_more_same [] k = refl
one_less-one_more_same (a ∷ x) zero = ap (λ b. b ∷ x) (omega arith)
one_less-one_more_same (a ∷ x) (suc k) = ap (λ z. a ∷ z) (one_less-one_more_same x k)

pub one_more-one_less_same : (x : List ℕ) (k : ℕ) → 0 < at x k → one_more (one_less x k) k ≡ x
one_more-one_less_same [] k h = refl
one_more-one_less_same (a ∷ x) zero h = ap (λ b. b ∷ x) (omega arith)
one_more-one_less_same (a ∷ x) (suc k) h = ap (λ z. a ∷ z) (one_more-one_less_same x k h)

pub at-one_more_ge : (x : List ℕ) (k l : ℕ) → at x l ≤ at (one_more x k) l
at-one_more_ge [] k l = omega arith
at-one_more_ge (a ∷ x) zero zero = omega arith
at-one_more_ge (a ∷ x) zero (suc l) = omega arith
at-one_more_ge (a ∷ x) (suc k) zero = omega arith
at-one_more_ge (a ∷ x) (suc k) (suc l) = at-one_more_ge x k l

pub at-one_less_le : (x : List ℕ) (k l : ℕ) → at (one_less x k) l ≤ at x l
at-one_less_le [] k l = omega arith
at-one_less_le (a ∷ x) zero zero = omega arith
at-one_less_le (a ∷ x) zero (suc l) = omega arith
at-one_less_le (a ∷ x) (suc k) zero = omega arith
at-one_less_le (a ∷ x) (suc k) (suc l) = at-one_less_le x k l

pub at-one_less_same : (x : List ℕ) (k : ℕ) → at (one_less x k) k ≡ at x k - 1
at-one_less_same [] k = refl
at-one_less_same (a ∷ x) zero = refl
at-one_less_same (a ∷ x) (suc k) = at-one_less_same x k

pub length-one_less : (x : List ℕ) (k : ℕ) → length (one_less x k) ≡ length x
length-one_less [] k = refl
length-one_less (a ∷ x) zero = refl
length-one_less (a ∷ x) (suc k) = ap suc (length-one_less x k)

-- x gives a unit of k towards y, and y takes one towards x, alone or against a unit of a good of which y has more
abbrev pub Gives : (List ℕ → Type 0) → List ℕ → List ℕ → ℕ → Type 0
Gives A x y k = A (one_less x k) ⊎ ((l : ℕ) × (at x l < at y l) × A (one_more (one_less x k) l))

abbrev pub Takes : (List ℕ → Type 0) → List ℕ → List ℕ → ℕ → Type 0
Takes A x y k = A (one_more y k) ⊎ ((l : ℕ) × (at x l < at y l) × A (one_less (one_more y k) l))

-- each bundle of the set gives, or takes, wherever it has more, or less, than another
abbrev pub CanGive : (List ℕ → Type 0) → Type 0
CanGive A = (x y : List ℕ) (k : ℕ) → A x → A y → at y k < at x k → Gives A x y k

abbrev pub CanTake : (List ℕ → Type 0) → Type 0
CanTake A = (x y : List ℕ) (k : ℕ) → A x → A y → at y k < at x k → Takes A x y k
