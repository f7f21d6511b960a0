-- Sums of two bundles: where they are within the supply, and their places.
use Rattle.std.proofs.Common.{◌≡◌, ◌≢◌, ◌≤◌, ◌<◌, ℕ, zero, suc, ◌+◌, ◌/◌, ◌%◌, Bool, true, false, List, [], ◌∷◌, length, refl, ◌∙◌, ap, arith, slice_index}
use Rattle.std.proofs.Math.Nat.{zero-div, add-mul}
use Rattle.lot_base.specs.Goods.{plus, zeros, is_within, box_size, AtMost}
use Rattle.lot_base.specs.Box.{index_of, bundle_at}
use Rattle.lot_base.specs.Choices.{Clears, clears}
use Rattle.lot_base.proofs.Within.{within-at_most, at_most-within}
use Rattle.lot_base.proofs.Index.{box_size-above_0}
use Rattle.lot_base.proofs.Vec.{at-below}
use Rattle.award_assembly.proofs.Places.{clears-says, clears-true}

pub plus-assoc : (x y z : List ℕ) → plus (plus x y) z ≡ plus x (plus y z)
plus-assoc [] y z = refl
plus-assoc (x ∷ xs) [] z = refl
plus-assoc (x ∷ xs) (y ∷ ys) [] = refl
plus-assoc (x ∷ xs) (y ∷ ys) (z ∷ zs) = let e : x + y + z ≡ x + (y + z) = omega arith in λ i. e i ∷ plus-assoc xs ys zs i

pub plus-zeros : (s t : List ℕ) → length t ≡ length s → plus t (zeros s) ≡ t
plus-zeros [] [] same = refl
plus-zeros (s ∷ ss) [] same = absurd (omega arith)
plus-zeros [] (t ∷ ts) same = refl
plus-zeros (s ∷ ss) (t ∷ ts) same = let e : t + 0 ≡ t = omega arith in λ i. e i ∷ plus-zeros ss ts (omega arith) i

pub zeros-plus : (s t : List ℕ) → length s ≤ length t → plus (zeros s) t ≡ t
zeros-plus [] t long = refl
zeros-plus (s ∷ ss) [] long = absurd (omega arith)
zeros-plus (s ∷ ss) (t ∷ ts) long = let e : 0 + t ≡ t = omega arith in λ i. e i ∷ zeros-plus ss ts (omega arith) i

pub length-plus : (x y : List ℕ) → length y ≤ length (plus x y)
length-plus [] y = omega arith
length-plus (x ∷ xs) [] = omega arith
length-plus (x ∷ xs) (y ∷ ys) = let h = length-plus xs ys in omega arith

pub length-plus_same : (x y : List ℕ) → length x ≡ length y → length (plus x y) ≡ length y
length-plus_same [] y same = refl
length-plus_same (x ∷ xs) [] same = absurd (omega arith)
length-plus_same (x ∷ xs) (y ∷ ys) same = ap suc (length-plus_same xs ys (omega arith))

at-plus : (x y : List ℕ) (k : ℕ) → slice_index (plus x y) k ≡ slice_index x k + slice_index y k
at-plus [] y k = omega arith
at-plus (x ∷ xs) [] k = omega arith
at-plus (x ∷ xs) (y ∷ ys) zero = refl
at-plus (x ∷ xs) (y ∷ ys) (suc k) = at-plus xs ys k

at_most-plus : (s x y : List ℕ) → length x ≡ length s → length y ≡ length s → ((k : ℕ) → k < length s → slice_index x k + slice_index y k ≤ slice_index s k) → AtMost (plus x y) s
at_most-plus [] [] [] a b each = tt
at_most-plus [] [] (y ∷ ys) a b each = absurd (omega arith)
at_most-plus [] (x ∷ xs) y a b each = absurd (omega arith)
at_most-plus (s ∷ ss) [] y a b each = absurd (omega arith)
at_most-plus (s ∷ ss) (x ∷ xs) [] a b each = absurd (omega arith)
at_most-plus (s ∷ ss) (x ∷ xs) (y ∷ ys) a b each = (each 0 (omega arith), at_most-plus ss xs ys (omega arith) (omega arith) (λ k lt. each (suc k) (omega arith)))

-- the test whether a sum is within the supply
pub within-plus : (s x y : List ℕ) → length x ≡ length s → length y ≡ length s → ((k : ℕ) → k < length s → slice_index x k + slice_index y k ≤ slice_index s k) → is_within s (plus x y) ≡ true
within-plus s x y a b each = at_most-within s (plus x y) (at_most-plus s x y a b each)

pub beyond-plus : (s x y : List ℕ) (k : ℕ) → slice_index s k < slice_index x k + slice_index y k → is_within s (plus x y) ≡ false
beyond-plus s x y k above = by (is_within s (plus x y)) refl
  where
    by : (b : Bool) → is_within s (plus x y) ≡ b → b ≡ false
    by true e = absurd (let h = at-below (plus x y) s k (within-at_most s (plus x y) e) in let f = at-plus x y k in omega arith)
    by false e = refl

-- the place of a sum
pub index_of-plus : (s x y : List ℕ) → length x ≡ length s → length y ≡ length s → index_of s (plus x y) ≡ index_of s x + index_of s y
index_of-plus [] x y a b = refl
index_of-plus (s ∷ ss) [] y a b = absurd (omega arith)
index_of-plus (s ∷ ss) (x ∷ xs) [] a b = absurd (omega arith)
index_of-plus (s ∷ ss) (x ∷ xs) (y ∷ ys) a b =
    joined _ _ _ _ _ _ (add-mul x y (box_size ss)) (index_of-plus ss xs ys (omega arith) (omega arith))
  where
    joined : (n u v m l r : ℕ) → n ≡ u + v → m ≡ l + r → n + m ≡ (u + l) + (v + r)
    joined n u v m l r e f = omega arith

pub bundle_at-0 : (s : List ℕ) → bundle_at s 0 ≡ zeros s
bundle_at-0 [] = refl
bundle_at-0 (s ∷ ss) =
    let some = box_size-above_0 ss in
    let q : 0 / box_size ss ≡ 0 = zero-div (box_size ss) in
    let r : 0 % box_size ss ≡ 0 = omega arith in
    (λ i. q i ∷ bundle_at ss (r i)) ∙ ap (λ xs. 0 ∷ xs) (bundle_at-0 ss)

-- the test whether a total clears
clears-each : (s o p t : List ℕ) → length o ≡ length s → length p ≡ length s → AtMost t s → ((k : ℕ) → k < length s → slice_index o k < slice_index p k → slice_index t k ≡ slice_index s k) → Clears o p t s
clears-each [] [] [] [] opens same within each = tt
clears-each (s ∷ ss) (o ∷ os) (p ∷ ps) (t ∷ ts) opens same within each =
    (within.0, (λ some. each 0 (omega arith) some), clears-each ss os ps ts (omega arith) (omega arith) within.1 (λ k lt some. each (suc k) (omega arith) some))
clears-each [] o p (t ∷ ts) opens same within each = absurd within
clears-each (s ∷ ss) o p [] opens same within each = absurd within
clears-each s o p t opens same within each = absurd (omega arith)

each-clears : (s o p t : List ℕ) (k : ℕ) → Clears o p t s → slice_index o k < slice_index p k → slice_index t k ≡ slice_index s k
each-clears [] [] [] [] k c some = refl
each-clears (s ∷ ss) (o ∷ os) (p ∷ ps) (t ∷ ts) zero c some = c.1 some
each-clears (s ∷ ss) (o ∷ os) (p ∷ ps) (t ∷ ts) (suc k) c some = each-clears ss os ps ts k c.2 some
each-clears (s ∷ ss) [] [] [] k c some = absurd c
each-clears s [] [] (t ∷ ts) k c some = absurd c
each-clears s [] (p ∷ ps) t k c some = absurd c
each-clears s (o ∷ os) [] t k c some = absurd c
each-clears s (o ∷ os) (p ∷ ps) [] k c some = absurd c
each-clears [] (o ∷ os) (p ∷ ps) (t ∷ ts) k c some = absurd c

pub sold-clears : (s o p t : List ℕ) → length o ≡ length s → length p ≡ length s → AtMost t s → ((k : ℕ) → k < length s → slice_index o k < slice_index p k → slice_index t k ≡ slice_index s k) → clears o p t s ≡ true
sold-clears s o p t opens same within each = clears-true o p t s (clears-each s o p t opens same within each)

pub unsold-clears : (s o p t : List ℕ) (k : ℕ) → slice_index o k < slice_index p k → slice_index t k ≢ slice_index s k → clears o p t s ≡ false
unsold-clears s o p t k some differ = by (clears o p t s) refl
  where
    by : (b : Bool) → clears o p t s ≡ b → b ≡ false
    by true e = absurd (differ (each-clears s o p t k (clears-says o p t s e) some))
    by false e = refl
