-- Sums of two places: how many units the bundle there has, and that none are lost exactly where nothing is carried.
use Rattle.std.proofs.Common.{◌≡◌, ◌≤◌, ◌<◌, ◌⊎◌, inl, inr, ℕ, zero, suc, ◌+◌, ◌-◌, ◌*◌, Bool, true, false, nat_eq, List, [], ◌∷◌, sum, refl, sym, ◌∙◌, ap, arith}
use Rattle.std.proofs.Math.Nat.{add-mul, mul-add, mul_assoc, one-mul, zero-mul, suc-mul, mul-le-mul_left}
use Rattle.std.proofs.lemmas.Nat.{same_from_place}
use Rattle.std.proofs.lemmas.Bool.{cases_lt}
use Rattle.std.proofs.lemmas.Bool.Decides.{nat_tests}
use Rattle.std.proofs.lemmas.List.Sums.{sum_by-cons}
use Rattle.lot_base.specs.Goods.{plus, is_within, box_size, AtMost}
use Rattle.lot_base.specs.Box.{index_of, bundle_at}
use Rattle.lot_base.proofs.Within.{within-at_most, at_most-within}
use Rattle.lot_base.proofs.Index.{box_size-above_0, index_of-small, index_of-bundle_at, bundle_at-index_of, bundle_at-within}
use Rattle.lot_base.proofs.Vec.{length-below}
use Rattle.award_assembly.proofs.Adding.{index_of-plus}

sum-first : (x : ℕ) (xs : List ℕ) → sum (x ∷ xs) ≡ x + sum xs
sum-first x xs = sum_by-cons (λ (n : ℕ). n) x xs

-- the units of a sum
pub sum-plus : (x y : List ℕ) → sum (plus x y) ≡ sum x + sum y
sum-plus [] y = omega arith
sum-plus (x ∷ xs) [] = omega arith
sum-plus (x ∷ xs) (y ∷ ys) = joined _ _ _ _ _ _ _ _ (sum-first (x + y) (plus xs ys)) (sum-first x xs) (sum-first y ys) (sum-plus xs ys)
  where
    joined : (n u v x y z a b : ℕ) → n ≡ x + y + z → u ≡ x + a → v ≡ y + b → z ≡ a + b → n ≡ u + v
    joined n u v x y z a b e f g h = omega arith

-- a bundle has no more units than bundles before it
pub sum-below : (s x : List ℕ) → AtMost x s → sum x ≤ index_of s x
sum-below [] [] within = omega arith
sum-below [] (x ∷ xs) within = absurd within
sum-below (s ∷ ss) [] within = absurd within
sum-below (s ∷ ss) (x ∷ xs) within =
    let more : x * 1 ≤ x * box_size ss = mul-le-mul_left x (box_size-above_0 ss) in
    omega (arith, sum-first x xs, sum-below ss xs within.1, more)

-- A bundle z at the place of x and y together, but for some whole boxes that are carried out of it: each carry takes the
-- supply of a good and one away and adds 1 to the good before.
record IsCarried (s x y z : List ℕ) (carry : ℕ) : Type 0 where
  pub at_most : sum z + carry ≤ sum x + sum y
  pub within : sum z + carry ≡ sum x + sum y → AtMost (plus x y) s

-- the first digits of three places, where the others carry so much
digits : (s a b c d q u v w : ℕ) → d + c * (s + 1) ≡ a + b + q → w + q ≤ u + v → d + w + c ≤ a + u + (b + v)
digits s a b c d q u v w e h = let more : c * 1 ≤ c * (s + 1) = mul-le-mul_left c (omega arith) in omega (arith, more)

digits-kept : (s a b c d q u v w : ℕ) → d + c * (s + 1) ≡ a + b + q → w + q ≤ u + v → d + w + c ≡ a + u + (b + v) → (w + q ≡ u + v) × (c * s ≡ 0)
digits-kept s a b c d q u v w e h kept = let f : c * (s + 1) ≡ c * s + c * 1 = mul-add c s 1 in (omega (arith, f), omega (arith, f))

digit-within : (s a b c d : ℕ) → a ≤ s → b ≤ s → d ≤ s → d + c * (s + 1) ≡ a + b + 0 → c * s ≡ 0 → a + b ≤ s
digit-within s a b zero d ha hb hd e f = let g : 0 * (s + 1) ≡ 0 = zero-mul (s + 1) in omega (arith, g)
digit-within s a b (suc c) d ha hb hd e f = let g : suc c * s ≡ c * s + s = suc-mul c s in omega (arith, g)

row : (a b c d s m i j k : ℕ) → d * m + k + c * ((s + 1) * m) ≡ a * m + i + (b * m + j) → (d + c * (s + 1)) * m + k ≡ (a + b) * m + (i + j)
row a b c d s m i j k e = joined _ _ _ _ _ _ _ _ (add-mul d (c * (s + 1)) m) (mul_assoc c (s + 1) m) (add-mul a b m) e
  where
    joined : (n p dm am bm i j k : ℕ) {cm cr : ℕ} → n ≡ dm + cm → cm ≡ cr → p ≡ am + bm → dm + k + cr ≡ am + i + (bm + j) → n + k ≡ p + (i + j)
    joined n p dm am bm i j k e f g h = omega arith

carried-first : (s a b d c : ℕ) (ss x y z : List ℕ) → AtMost (a ∷ x) (s ∷ ss) → AtMost (b ∷ y) (s ∷ ss) → AtMost (d ∷ z) (s ∷ ss)
    → index_of (s ∷ ss) (d ∷ z) + c * box_size (s ∷ ss) ≡ index_of (s ∷ ss) (a ∷ x) + index_of (s ∷ ss) (b ∷ y)
    → ((q : ℕ) → index_of ss z + q * box_size ss ≡ index_of ss x + index_of ss y → IsCarried ss x y z q) → IsCarried (s ∷ ss) (a ∷ x) (b ∷ y) (d ∷ z) c
carried-first s a b d c ss x y z hx hy hz e behind = by (cases_lt (index_of ss x + index_of ss y) (box_size ss))
  where
    places : (d + c * (s + 1)) * box_size ss + index_of ss z ≡ (a + b) * box_size ss + (index_of ss x + index_of ss y)
    places = row a b c d s (box_size ss) (index_of ss x) (index_of ss y) (index_of ss z) e

    at_most : (q : ℕ) → d + c * (s + 1) ≡ a + b + q → IsCarried ss x y z q → sum (d ∷ z) + c ≤ sum (a ∷ x) + sum (b ∷ y)
    at_most q f h = let g = digits s a b c d q (sum x) (sum y) (sum z) f h.at_most in omega (arith, g, sum-first d z, sum-first a x, sum-first b y)

    kept : (q : ℕ) → d + c * (s + 1) ≡ a + b + q → IsCarried ss x y z q → sum (d ∷ z) + c ≡ sum (a ∷ x) + sum (b ∷ y) → (sum z + q ≡ sum x + sum y) × (c * s ≡ 0)
    kept q f h same = digits-kept s a b c d q (sum x) (sum y) (sum z) f h.at_most (omega (arith, same, sum-first d z, sum-first a x, sum-first b y))

    beyond : box_size ss ≤ index_of ss x + index_of ss y → AtMost (plus x y) ss → ⊥
    beyond high within = (let small = index_of-small ss (plus x y) within in let place = index_of-plus ss x y (length-below x ss hx.1) (length-below y ss hy.1) in omega arith)

    by : (index_of ss x + index_of ss y < box_size ss) ⊎ (box_size ss ≤ index_of ss x + index_of ss y) → IsCarried (s ∷ ss) (a ∷ x) (b ∷ y) (d ∷ z) c
    by (inl low) =
        let same = same_from_place (d + c * (s + 1)) (index_of ss z) (a + b) (index_of ss x + index_of ss y) (box_size ss) (index_of-small ss z hz.1) low places in
        let digit : d + c * (s + 1) ≡ a + b + 0 = omega (arith, same.0) in
        let h = behind 0 (let g = zero-mul (box_size ss) in omega (arith, same.1, g)) in
        record {
          at_most = at_most 0 digit h;
          within = λ f. let g = kept 0 digit h f in (digit-within s a b c d hx.0 hy.0 hz.0 digit g.1, h.within g.0);
        }
    by (inr high) =
        let small = index_of-small ss x hx.1 in
        let small_too = index_of-small ss y hy.1 in
        let shifted : (a + b) * box_size ss + (index_of ss x + index_of ss y) ≡ (a + b + 1) * box_size ss + (index_of ss x + index_of ss y - box_size ss) =
        (let g = add-mul (a + b) 1 (box_size ss) in let o = one-mul (box_size ss) in omega (arith, g, o, high)) in
        let same = same_from_place (d + c * (s + 1)) (index_of ss z) (a + b + 1) (index_of ss x + index_of ss y - box_size ss) (box_size ss) (index_of-small ss z hz.1) (omega arith) (places ∙ shifted) in
        let h = behind 1 (let o = one-mul (box_size ss) in omega (arith, same.1, o, high)) in
        record { at_most = at_most 1 same.0 h; within = λ f. absurd (beyond high (h.within (kept 1 same.0 h f).0)) }

carried : (s x y z : List ℕ) (c : ℕ) → AtMost x s → AtMost y s → AtMost z s → index_of s z + c * box_size s ≡ index_of s x + index_of s y → IsCarried s x y z c
carried [] [] [] [] c hx hy hz e = record { at_most = omega arith; within = λ same. tt }
carried [] (a ∷ x) y z c hx hy hz e = absurd hx
carried [] [] (b ∷ y) z c hx hy hz e = absurd hy
carried [] [] [] (d ∷ z) c hx hy hz e = absurd hz
carried (s ∷ ss) [] y z c hx hy hz e = absurd hx
carried (s ∷ ss) (a ∷ x) [] z c hx hy hz e = absurd hy
carried (s ∷ ss) (a ∷ x) (b ∷ y) [] c hx hy hz e = absurd hz
carried (s ∷ ss) (a ∷ x) (b ∷ y) (d ∷ z) c hx hy hz e = carried-first s a b d c ss x y z hx hy hz e (λ q f. carried ss x y z q hx.1 hy.1 hz.1 f)

-- two bundles are within the supply together where no units are lost
pub units-within : (s x y : List ℕ) → AtMost x s → AtMost y s → index_of s x + index_of s y < box_size s → sum (bundle_at s (index_of s x + index_of s y)) ≡ sum x + sum y → is_within s (plus x y) ≡ true
units-within s x y hx hy below same =
    let place = index_of s x + index_of s y in
    let none = zero-mul (box_size s) in
    let h = carried s x y (bundle_at s place) 0 hx hy (bundle_at-within s place below) (let e = index_of-bundle_at s place below in omega (arith, e, none)) in
    at_most-within s (plus x y) (h.within (omega (arith, same)))

pub within-units : (s x y : List ℕ) → AtMost x s → AtMost y s → is_within s (plus x y) ≡ true → sum (bundle_at s (index_of s x + index_of s y)) ≡ sum x + sum y
within-units s x y hx hy e =
    ap (λ (n : ℕ). sum (bundle_at s n)) (sym (index_of-plus s x y (length-below x s hx) (length-below y s hy)))
    ∙ ap sum (bundle_at-index_of s (plus x y) (within-at_most s (plus x y) e))
    ∙ sum-plus x y

test-same : (m n : ℕ) (b : Bool) → (m ≡ n → b ≡ true) → (b ≡ true → m ≡ n) → nat_eq m n ≡ b
test-same m n true to from = let e = from refl in grind (arith, nat_tests)
test-same m n false to from = by (nat_eq m n) refl
  where
    by : (t : Bool) → nat_eq m n ≡ t → t ≡ false
    by true e = sym (to (grind (arith, nat_tests)))
    by false e = refl

pub test-other : (m n : ℕ) → n < m → nat_eq m n ≡ false
test-other m n below = test-same m n false (λ same. absurd (omega arith)) (λ e. absurd (let f : false ≡ true = e in cc))

pub units-test : (s x : List ℕ) (place : ℕ) → AtMost x s → place + index_of s x < box_size s → nat_eq (sum (bundle_at s (place + index_of s x))) (sum (bundle_at s place) + sum x) ≡ is_within s (plus (bundle_at s place) x)
units-test s x place within below =
    test-same (sum (bundle_at s (place + index_of s x))) (sum (bundle_at s place) + sum x) (is_within s (plus (bundle_at s place) x)) (λ same. units-within s (bundle_at s place) x there within (omega (arith, at, below)) (sum-at ∙ same))
    (λ e. sym sum-at ∙ within-units s (bundle_at s place) x there within e)
  where
    there : AtMost (bundle_at s place) s
    there = bundle_at-within s place (omega arith)

    at : index_of s (bundle_at s place) ≡ place
    at = index_of-bundle_at s place (omega arith)

    sum-at : sum (bundle_at s (index_of s (bundle_at s place) + index_of s x)) ≡ sum (bundle_at s (place + index_of s x))
    sum-at = ap (λ (n : ℕ). sum (bundle_at s (n + index_of s x))) at
