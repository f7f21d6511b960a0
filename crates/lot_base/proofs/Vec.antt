-- Costs, distances and bounds of a bundle with one unit more or less of a good.
use Rattle.std.proofs.Common.{◌≡◌, ℕ, ◌+◌, ◌-◌, ◌≤◌, ◌<◌, ◌≢◌, List, [], ◌∷◌, length, arith, ap, refl, inl, inr}
use Rattle.std.specs.Prelude.{◌⊎◌}
use Prim.Native.Nat.{suc, zero}
use Rattle.std.proofs.lemmas.Bool.{cases_order}
use Rattle.lot_base.specs.Goods.{cost, plus, at, one_more, one_less, AtMost}
use Rattle.lot_base.proofs.Vectors.{distance, Bits}

pub cost-plus_left : (p q x : List ℕ) → cost (plus p q) x ≡ cost p x + cost q x
cost-plus_left [] q x = omega arith
cost-plus_left (a ∷ p) [] x = omega arith
cost-plus_left (a ∷ p) (b ∷ q) [] = refl
cost-plus_left (a ∷ p) (b ∷ q) (c ∷ x) = omega (arith, cost-plus_left p q x)

pub cost-plus_right : (x p q : List ℕ) → cost x (plus p q) ≡ cost x p + cost x q
cost-plus_right [] p q = refl
cost-plus_right (c ∷ x) [] q = omega arith
cost-plus_right (c ∷ x) (a ∷ p) [] = omega arith
cost-plus_right (c ∷ x) (a ∷ p) (b ∷ q) = omega (arith, cost-plus_right x p q)

pub cost-one_more : (p x : List ℕ) (k : ℕ) → k < length x → cost p (one_more x k) ≡ cost p x + at p k
cost-one_more p [] k h = absurd (omega arith)
cost-one_more [] (a ∷ x) zero h = refl
cost-one_more [] (a ∷ x) (suc k) h = refl
cost-one_more (c ∷ p) (a ∷ x) zero h = omega arith
cost-one_more (c ∷ p) (a ∷ x) (suc k) h = let i : k < length x = omega arith in omega (arith, cost-one_more p x k i)

pub cost-one_less : (p x : List ℕ) (k : ℕ) → 0 < at x k → cost p (one_less x k) + at p k ≡ cost p x
cost-one_less p [] k h = absurd (omega arith)
cost-one_less [] (a ∷ x) zero h = refl
cost-one_less [] (a ∷ x) (suc k) h = refl
cost-one_less (c ∷ p) (zero ∷ x) zero h = absurd (omega arith)
cost-one_less (c ∷ p) (suc a ∷ x) zero h = let e : suc a - 1 ≡ a = omega arith in rw e (omega arith)
cost-one_less (c ∷ p) (a ∷ x) (suc k) h = omega (arith, cost-one_less p x k h)

pub distance-one_more : (x y : List ℕ) (k : ℕ) → k < length y → at y k < at x k → distance x (one_more y k) + 1 ≡ distance x y
distance-one_more [] y k i h = absurd (omega arith)
distance-one_more (a ∷ x) [] k i h = absurd (omega arith)
distance-one_more (a ∷ x) (b ∷ y) zero i h = omega arith
distance-one_more (a ∷ x) (b ∷ y) (suc k) i h = let j : k < length y = omega arith in omega (arith, distance-one_more x y k j h)

pub distance-one_less : (x y : List ℕ) (k : ℕ) → k < length x → at x k < at y k → distance x (one_less y k) + 1 ≡ distance x y
distance-one_less [] y k i h = absurd (omega arith)
distance-one_less (a ∷ x) [] k i h = absurd (omega arith)
distance-one_less (a ∷ x) (b ∷ y) zero i h = omega arith
distance-one_less (a ∷ x) (b ∷ y) (suc k) i h = let j : k < length x = omega arith in omega (arith, distance-one_less x y k j h)

pub distance_comm : (x y : List ℕ) → distance x y ≡ distance y x
distance_comm [] [] = refl
distance_comm [] (b ∷ y) = refl
distance_comm (a ∷ x) [] = refl
distance_comm (a ∷ x) (b ∷ y) = omega (arith, distance_comm x y)

pub AtMost-one_more : (x s : List ℕ) (k : ℕ) → AtMost x s → at x k < at s k → AtMost (one_more x k) s
AtMost-one_more [] s k b h = b
AtMost-one_more (a ∷ x) [] k b h = absurd b
AtMost-one_more (a ∷ x) (c ∷ s) zero b h = (omega arith, b.1)
AtMost-one_more (a ∷ x) (c ∷ s) (suc k) b h = (b.0, AtMost-one_more x s k b.1 h)

pub AtMost-one_less : (x s : List ℕ) (k : ℕ) → AtMost x s → AtMost (one_less x k) s
AtMost-one_less [] s k b = b
AtMost-one_less (a ∷ x) [] k b = absurd b
AtMost-one_less (a ∷ x) (c ∷ s) zero b = (omega arith, b.1)
AtMost-one_less (a ∷ x) (c ∷ s) (suc k) b = (b.0, AtMost-one_less x s k b.1)

pub length-below : (x s : List ℕ) → AtMost x s → length x ≡ length s
length-below [] [] b = refl
length-below [] (c ∷ s) b = absurd b
length-below (a ∷ x) [] b = absurd b
length-below (a ∷ x) (c ∷ s) b = ap suc (length-below x s b.1)

pub at-below : (x s : List ℕ) (k : ℕ) → AtMost x s → at x k ≤ at s k
at-below [] s k b = omega arith
at-below (a ∷ x) [] k b = absurd b
at-below (a ∷ x) (c ∷ s) zero b = b.0
at-below (a ∷ x) (c ∷ s) (suc k) b = at-below x s k b.1

pub within_from_at : (x : List ℕ) (k : ℕ) → 0 < at x k → k < length x
within_from_at [] k h = absurd (omega arith)
within_from_at (a ∷ x) zero h = omega arith
within_from_at (a ∷ x) (suc k) h = let i = within_from_at x k h in omega arith

pub length-one_more : (x : List ℕ) (k : ℕ) → length (one_more x k) ≡ length x
length-one_more [] k = refl
length-one_more (a ∷ x) zero = refl
length-one_more (a ∷ x) (suc k) = ap suc (length-one_more x k)

pub at-up_other : (x : List ℕ) (k l : ℕ) → l ≢ k → at (one_more x k) l ≡ at x l
at-up_other [] k l n = refl
at-up_other (a ∷ x) zero zero n = absurd (n refl)
at-up_other (a ∷ x) zero (suc l) n = refl
at-up_other (a ∷ x) (suc k) zero n = refl
at-up_other (a ∷ x) (suc k) (suc l) n = let m : l ≢ k = omega arith in at-up_other x k l m

pub at-down_other : (x : List ℕ) (k l : ℕ) → l ≢ k → at (one_less x k) l ≡ at x l
at-down_other [] k l n = refl
at-down_other (a ∷ x) zero zero n = absurd (n refl)
at-down_other (a ∷ x) zero (suc l) n = refl
at-down_other (a ∷ x) (suc k) zero n = refl
at-down_other (a ∷ x) (suc k) (suc l) n = let m : l ≢ k = omega arith in at-down_other x k l m

pub at-bits : (e : List ℕ) (k : ℕ) → Bits e → at e k ≤ 1
at-bits [] k b = omega arith
at-bits (a ∷ e) zero b = b.0
at-bits (a ∷ e) (suc k) b = at-bits e k b.1

-- two bundles of one box are the same or differ at some good
pub differ : (x y s : List ℕ) → AtMost x s → AtMost y s → (x ≡ y) ⊎ ((k : ℕ) × ((at y k < at x k) ⊎ (at x k < at y k)))
differ [] [] s b c = inl refl
differ [] (d ∷ y) [] b c = absurd c
differ [] (d ∷ y) (m ∷ s) b c = absurd b
differ (a ∷ x) [] [] b c = absurd b
differ (a ∷ x) [] (m ∷ s) b c = absurd c
differ (a ∷ x) (d ∷ y) [] b c = absurd b
differ (a ∷ x) (d ∷ y) (m ∷ s) b c = go (cases_order a d) (differ x y s b.1 c.1)
  where
    go : (a ≡ d) ⊎ ((a < d) ⊎ (d < a)) → (x ≡ y) ⊎ ((k : ℕ) × ((at y k < at x k) ⊎ (at x k < at y k)))
        → (a ∷ x ≡ d ∷ y) ⊎ ((k : ℕ) × ((at (d ∷ y) k < at (a ∷ x) k) ⊎ (at (a ∷ x) k < at (d ∷ y) k)))
    go (inl e) (inl f) = inl (cc)
    go (inl e) (inr t) = inr (suc t.0, t.1)
    go (inr (inl h)) t = inr (0, inr h)
    go (inr (inr h)) t = inr (0, inl h)
