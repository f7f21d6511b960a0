-- Vectors of numbers read entry by entry: sums, differences, goodwise lesser and greater, and back from entries to vectors.
use Rattle.std.proofs.Common.{◌≡◌, ℕ, ◌+◌, ◌-◌, ◌≤◌, ◌<◌, List, [], ◌∷◌, length, arith, refl, inl, inr}
use Rattle.std.proofs.lemmas.Bool.{cases_lt}
use Prim.Native.Nat.{suc, zero, min, max}
use Rattle.lot_base.proofs.Vectors.{Bits, Within, above, join, lower, reduced, support, total}
use Rattle.lot_base.specs.Goods.{AtMost, at, plus}
use Rattle.lyapunov.specs.Paths.{highest}

-- the operations on vectors, entry by entry
pub at-sum : (a b : List ℕ) (k : ℕ) → at (plus a b) k ≡ at a k + at b k
at-sum [] b k = omega arith
at-sum (c ∷ a) [] zero = omega arith
at-sum (c ∷ a) [] (suc k) = omega arith
at-sum (c ∷ a) (d ∷ b) zero = refl
at-sum (c ∷ a) (d ∷ b) (suc k) = at-sum a b k

pub at-rest : (a b : List ℕ) (k : ℕ) → at (above a b) k ≡ at a k - at b k
at-rest [] b k = omega arith
at-rest (c ∷ a) [] zero = omega arith
at-rest (c ∷ a) [] (suc k) = omega arith
at-rest (c ∷ a) (d ∷ b) zero = refl
at-rest (c ∷ a) (d ∷ b) (suc k) = at-rest a b k

pub at-join : (a b : List ℕ) (k : ℕ) → at (join a b) k ≡ max (at a k) (at b k)
at-join [] b k = omega arith
at-join (c ∷ a) [] zero = omega arith
at-join (c ∷ a) [] (suc k) = omega arith
at-join (c ∷ a) (d ∷ b) zero = refl
at-join (c ∷ a) (d ∷ b) (suc k) = at-join a b k

pub at-lower : (a b : List ℕ) (k : ℕ) → at (lower a b) k ≡ min (at a k) (at b k)
at-lower [] b k = omega arith
at-lower (c ∷ a) [] zero = omega arith
at-lower (c ∷ a) [] (suc k) = omega arith
at-lower (c ∷ a) (d ∷ b) zero = refl
at-lower (c ∷ a) (d ∷ b) (suc k) = at-lower a b k

pub at-support : (b : List ℕ) (k : ℕ) → at (support b) k ≡ min (at b k) 1
at-support [] k = omega arith
at-support (a ∷ b) zero = refl
at-support (a ∷ b) (suc k) = at-support b k

pub at-reduced : (b : List ℕ) (k : ℕ) → at (reduced b) k ≡ at b k - 1
at-reduced [] k = omega arith
at-reduced (a ∷ b) zero = refl
at-reduced (a ∷ b) (suc k) = at-reduced b k

pub at-past : (x : List ℕ) (k : ℕ) → length x ≤ k → at x k ≡ 0
at-past [] k h = refl
at-past (a ∷ x) zero h = absurd (omega arith)
at-past (a ∷ x) (suc k) h = let i : length x ≤ k = omega arith in at-past x k i

-- and back
pub same-at : (x y : List ℕ) → length x ≡ length y → ((k : ℕ) → at x k ≡ at y k) → x ≡ y
same-at [] [] l h = refl
same-at [] (b ∷ y) l h = absurd (omega arith)
same-at (a ∷ x) [] l h = absurd (omega arith)
same-at (a ∷ x) (b ∷ y) l h = let l' : length x ≡ length y = omega arith in let i : a ≡ b = h 0 in let j = same-at x y l' (λ k. h (suc k)) in cc

pub AtMost-at : (x y : List ℕ) → length x ≡ length y → ((k : ℕ) → at x k ≤ at y k) → AtMost x y
AtMost-at [] [] l h = tt
AtMost-at [] (b ∷ y) l h = absurd (omega arith)
AtMost-at (a ∷ x) [] l h = absurd (omega arith)
AtMost-at (a ∷ x) (b ∷ y) l h = let l' : length x ≡ length y = omega arith in (h 0, AtMost-at x y l' (λ k. h (suc k)))

pub Bits-at : (e : List ℕ) → ((k : ℕ) → at e k ≤ 1) → Bits e
Bits-at [] h = tt
Bits-at (a ∷ e) h = (h 0, Bits-at e (λ k. h (suc k)))

pub Within-at : (n : ℕ) (b : List ℕ) → ((k : ℕ) → at b k ≤ n) → Within n b
Within-at n [] h = tt
Within-at n (a ∷ b) h = (h 0, Within-at n b (λ k. h (suc k)))

pub at-within : (n : ℕ) (b : List ℕ) (k : ℕ) → Within n b → at b k ≤ n
at-within n [] k w = omega arith
at-within n (a ∷ b) zero w = w.0
at-within n (a ∷ b) (suc k) w = at-within n b k w.1

-- a vector below another with no smaller sum is the other
pub same-total : (x y : List ℕ) → AtMost x y → total y ≤ total x → x ≡ y
same-total [] [] h t = refl
same-total [] (b ∷ y) h t = absurd h
same-total (a ∷ x) [] h t = absurd h
same-total (a ∷ x) (b ∷ y) h t =
    let i = h.0 in
    let j = total-below x y h.1 in
    let e : a ≡ b = omega arith in
    let t' : total y ≤ total x = omega arith in
    let f = same-total x y h.1 t' in cc
  where
    total-below : (x y : List ℕ) → AtMost x y → total x ≤ total y
    total-below [] [] h = omega arith
    total-below [] (b ∷ y) h = absurd h
    total-below (a ∷ x) [] h = absurd h
    total-below (a ∷ x) (b ∷ y) h = let i = h.0 in let j = total-below x y h.1 in omega arith

pub total-none : (x : List ℕ) (k : ℕ) → total x ≡ 0 → at x k ≡ 0
total-none [] k t = refl
total-none (a ∷ x) zero t = omega arith
total-none (a ∷ x) (suc k) t = let t' : total x ≡ 0 = omega arith in total-none x k t'

pub highest-bounds : (x : List ℕ) (k : ℕ) → at x k ≤ highest x
highest-bounds [] k = omega arith
highest-bounds (a ∷ x) zero = omega arith
highest-bounds (a ∷ x) (suc k) = let i = highest-bounds x k in omega arith

pub highest-within : (n : ℕ) (x : List ℕ) → ((k : ℕ) → at x k ≤ n) → highest x ≤ n
highest-within n [] h = omega arith
highest-within n (a ∷ x) h = let i = h 0 in let j = highest-within n x (λ k. h (suc k)) in let i' : a ≤ n = i in omega arith

pub highest-reached : (x : List ℕ) → (k : ℕ) × (at x k ≡ highest x)
highest-reached [] = (0, refl)
highest-reached (a ∷ x) = let t = highest-reached x in elim (cases_lt a (highest x)) [
  | inl h ↦ (let i = t.1 in (suc t.0, omega arith))
  | inr h ↦ (0, omega arith)
]

pub total-some : (x : List ℕ) → 0 < total x → 0 < highest x
total-some [] h = absurd (omega arith)
total-some (zero ∷ x) h = let h' : 0 < total x = omega arith in let i = total-some x h' in omega arith
total-some (suc a ∷ x) h = omega arith
