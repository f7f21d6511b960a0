-- Where the bundles of a box stand: a unit more of a good is a stride further.
use Rattle.std.proofs.lemmas.Nat.{rows as rows_set}
use Rattle.std.proofs.Common.{◌≡◌, ℕ, ◌+◌, ◌-◌, ◌*◌, ◌/◌, ◌%◌, ◌≤◌, ◌<◌, List, [], ◌∷◌, length, arith, refl, drop}
use Prim.Native.Nat.{suc, zero}
use Rattle.lot_base.specs.Goods.{at, one_more, one_less, box_size}
use Rattle.lot_base.specs.Box.{bundle_at, index_of}
use Rattle.lot_base.specs.Strides.{stride}
use Rattle.lot_base.proofs.Index.{box_size-above_0}

pub quotient : (c m i : ℕ) → i < (c + 1) * m → i / m < c + 1
quotient c m i h = grind (arith, rows_set)

pub stride_is : (s : List ℕ) (k : ℕ) → k < length s → stride s k ≡ box_size (drop (suc k) s)
stride_is [] k h = absurd (omega arith)
stride_is (c ∷ s) zero h = refl
stride_is (c ∷ s) (suc k) h = let i : k < length s = omega arith in stride_is s k i

pub size-drop : (s : List ℕ) (k : ℕ) → k < length s → box_size (drop k s) ≡ stride s k * (at s k + 1)
size-drop [] k h = absurd (omega arith)
size-drop (c ∷ s) zero h = omega arith
size-drop (c ∷ s) (suc k) h = let i : k < length s = omega arith in size-drop s k i

pub size-drop_le : (s : List ℕ) (k : ℕ) → box_size (drop k s) ≤ box_size s
size-drop_le s zero = omega arith
size-drop_le [] (suc k) = omega arith
size-drop_le (c ∷ s) (suc k) = let i = size-drop_le s k in more c (box_size (drop k s)) (box_size s) i
  where
    more : (c a b : ℕ) → a ≤ b → a ≤ (c + 1) * b
    more c a b h = omega arith

pub stride_positive : (s : List ℕ) (k : ℕ) → k < length s → 0 < stride s k
stride_positive s k h = let e = stride_is s k h in let i = box_size-above_0 (drop (suc k) s) in omega arith

pub place_first : (s : List ℕ) (k r : ℕ) → k < length s → at (bundle_at (drop k s) r) 0 ≡ r / stride s k
place_first [] k r h = absurd (omega arith)
place_first (c ∷ s) zero r h = refl
place_first (c ∷ s) (suc k) r h = let i : k < length s = omega arith in place_first s k r i

pub place_most : (s : List ℕ) (k r : ℕ) → k < length s → r < box_size (drop k s) → r / stride s k ≤ at s k
place_most [] k r h l = absurd (omega arith)
place_most (c ∷ s) zero r h l = let q = quotient c (box_size s) r l in omega arith
place_most (c ∷ s) (suc k) r h l = let i : k < length s = omega arith in place_most s k r i l

pub place_next : (s : List ℕ) (k r m : ℕ) → k < length s → at (bundle_at (drop k s) r) (suc m) ≡ at (bundle_at (drop (suc k) s) (r % stride s k)) m
place_next [] k r m h = absurd (omega arith)
place_next (c ∷ s) zero r m h = refl
place_next (c ∷ s) (suc k) r m h = let i : k < length s = omega arith in place_next s k r m i

pub place_rest : (s : List ℕ) (k r : ℕ) → k < length s → r % stride s k < box_size (drop (suc k) s)
place_rest s k r h = let e = stride_is s k h in let p = stride_positive s k h in let i : r % stride s k < stride s k = omega arith in omega arith

-- a unit more is a stride further
pub index-up : (s w : List ℕ) (k : ℕ) → length w ≡ length s → k < length s → index_of s (one_more w k) ≡ index_of s w + stride s k
index-up [] w k e h = absurd (omega arith)
index-up (c ∷ s) [] k e h = absurd (omega arith)
index-up (c ∷ s) (a ∷ w) zero e h = omega arith
index-up (c ∷ s) (a ∷ w) (suc k) e h =
    let f : length w ≡ length s = omega arith in
    let i : k < length s = omega arith in
    let j = index-up s w k f i in omega arith

pub drop_all : (s : List ℕ) → drop (length s) s ≡ []
drop_all [] = refl
drop_all (c ∷ s) = drop_all s

pub index-down : (s w : List ℕ) (k : ℕ) → length w ≡ length s → 0 < at w k → index_of s (one_less w k) + stride s k ≡ index_of s w
index-down [] [] k e h = absurd (omega arith)
index-down [] (a ∷ w) k e h = absurd (omega arith)
index-down (c ∷ s) [] k e h = absurd (omega arith)
index-down (c ∷ s) (zero ∷ w) zero e h = absurd (omega arith)
index-down (c ∷ s) (suc a ∷ w) zero e h = let f : suc a - 1 ≡ a = omega arith in rw f (omega arith)
index-down (c ∷ s) (a ∷ w) (suc k) e h =
    let f : length w ≡ length s = omega arith in
    let j = index-down s w k f h in omega arith
