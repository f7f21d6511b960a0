-- What a bundle is worth by marginal values, good by good.
use Rattle.std.proofs.Common.{◌≡◌, ◌<◌, ◌≤◌, ℕ, zero, suc, ◌+◌, List, [], ◌∷◌, length, slice_index, take, drop, min, arith, ap, refl, ◌∙◌, drop-cons}
use Rattle.lot_base.specs.Goods.{AtMost}
use Rattle.lot_base.proofs.Vec.{at-below, length-below}
use Rattle.valuation.specs.Forms.{total, marginal_value}

pub taken : (n : ℕ) (xs : List ℕ) → n ≤ length xs → n ≡ length (take n xs)
taken zero xs h = refl
taken (suc n) [] h = absurd (omega arith)
taken (suc n) (x ∷ xs) h = ap suc (taken n xs (omega arith))

total-drop : (s : List ℕ) (k : ℕ) → k < length s → total (drop k s) ≡ slice_index s k + total (drop (k + 1) s)
total-drop s k inside =
    let one : suc k ≡ k + 1 = omega arith in
    ap total (drop-cons s k 0 inside) ∙ ap (λ n. slice_index s k + total (drop n s)) one

-- the entries that are left are enough for the good and for those after it
pub enough : (s x rest : List ℕ) (k : ℕ) → AtMost x s → k < length s → length rest ≡ total (drop k s) → slice_index x k ≤ length rest
enough s x rest k within inside count =
    let a = at-below x s k within in
    let t = total-drop s k inside in
    omega (arith, a, t, count)

pub rest-count : (s rest : List ℕ) (k : ℕ) → k < length s → length rest ≡ total (drop k s) → length (drop (slice_index s k) rest) ≡ total (drop (k + 1) s)
rest-count s rest k inside count = let t = total-drop s k inside in let d = dropped (slice_index s k) rest in omega (arith, d, t, count)
  where
    dropped : (n : ℕ) (xs : List ℕ) → length (drop n xs) + min n (length xs) ≡ length xs
    dropped zero xs = omega arith
    dropped (suc n) [] = omega arith
    dropped (suc n) (x ∷ xs) = let i = dropped n xs in omega (arith, i)

pub marginal-next : (s rest x : List ℕ) (k : ℕ) → AtMost x s → k < length s
    → marginal_value (drop k s) rest (drop k x) ≡ total (take (slice_index x k) rest) + marginal_value (drop (k + 1) s) (drop (slice_index s k) rest) (drop (k + 1) x)
marginal-next s rest x k within inside =
    let l = length-below x s within in
    let in_x : k < length x = omega (arith, l, inside) in
    let one : suc k ≡ k + 1 = omega arith in
    (λ i. marginal_value (drop-cons s k 0 inside i) rest (drop-cons x k 0 in_x i))
    ∙ (λ i. total (take (slice_index x k) rest) + marginal_value (drop (one i) s) (drop (slice_index s k) rest) (drop (one i) x))
