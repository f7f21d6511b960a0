-- What the bundles of more and more goods cost, from the last good on.
use Rattle.std.proofs.Common.{◌≡◌, ◌<◌, ◌≤◌, ℕ, zero, suc, ◌+◌, ◌-◌, ◌*◌, ◌/◌, ◌%◌, ◌^◌, List, [], ◌∷◌, length, slice_index, drop, arith, ap, refl, sym, ◌∙◌, subst}
use Rattle.std.proofs.Math.Nat.{div-eq-sub-div, mod-eq-sub-mod, div-eq_of_lt, mod-eq_of_lt, div-le_self, mul-le-mul}
use Rattle.std.proofs.Math.Seq.{drop-cons}
use Rattle.std.proofs.lemmas.List.{drop_all}
use Rattle.lot_base.specs.Goods.{box_size, cost, AtMost}
use Rattle.lot_base.specs.Box.{bundle_at}
use Rattle.lot_base.specs.Strides.{stride}
use Rattle.lot_base.proofs.Index.{box_size-above_0, bundle_at-within}
use Rattle.lot_base.proofs.Sums.{box_of_drop}
use Rattle.rationale.specs.Kept.{AreLow}

-- the number at a place, by those of the first bundles
abbrev pub spread_at : List ℕ → ℕ → ℕ → ℕ → ℕ
spread_at old size price i = slice_index old (i % size) + (i / size) * price

pub spread-start : (old : List ℕ) (size price i : ℕ) → i < size → slice_index old i ≡ spread_at old size price i
spread-start old size price i inside =
    let q : i / size ≡ 0 = div-eq_of_lt inside in
    let r : slice_index old (i % size) ≡ slice_index old i = ap (slice_index old) (mod-eq_of_lt inside) in
    let z : (i / size) * price ≡ 0 * price = ap (λ n. n * price) q in
    omega (arith, r, z)

pub spread-more : (old : List ℕ) (size price i : ℕ) → 1 ≤ size → size ≤ i → spread_at old size price (i - size) + price ≡ spread_at old size price i
spread-more old size price i some high =
    let positive : 0 < size = omega arith in
    let q : i / size ≡ (i - size) / size + 1 = div-eq-sub-div positive high in
    let r : slice_index old (i % size) ≡ slice_index old ((i - size) % size) = ap (slice_index old) (mod-eq-sub-mod high) in
    let m : (i / size) * price ≡ ((i - size) / size + 1) * price = ap (λ n. n * price) q in
    let d : ((i - size) / size + 1) * price ≡ ((i - size) / size) * price + price = grind arith in
    omega (arith, r, m, d)

-- no number is far above those before
pub spread-small : (old : List ℕ) (size price i low : ℕ) → 1 ≤ size → ((k : ℕ) → k < size → slice_index old k ≤ low) → i ≤ 2048 → price < 2 ^ 32 → spread_at old size price i ≤ low + 2 ^ 43
spread-small old size price i low some small few cheap =
    let q : i / size ≤ 2048 = (let d = div-le_self i size in omega (arith, d)) in
    let top : price ≤ 2 ^ 32 = omega arith in
    let m : (i / size) * price ≤ 2048 * 2 ^ 32 = mul-le-mul q top in
    let s = small (i % size) (mod-below i size some) in
    omega (arith, m, s)
  where
    mod-below : (i size : ℕ) → 1 ≤ size → i % size < size
    mod-below i size some = omega arith

cost-drop : (p : List ℕ) (k q : ℕ) (x : List ℕ) → cost (drop k p) (q ∷ x) ≡ slice_index p k * q + cost (drop (suc k) p) x
cost-drop [] zero q x = omega arith
cost-drop [] (suc k) q x = omega arith
cost-drop (a ∷ p) zero q x = refl
cost-drop (a ∷ p) (suc k) q x = cost-drop p k q x

-- the costs of the bundles of the goods from one on
abbrev pub AreCostsFrom : List ℕ → List ℕ → ℕ → List ℕ → Type 0
AreCostsFrom s p k costs = (i : ℕ) → i < box_size (drop k s) → slice_index costs i ≡ cost (drop k p) (bundle_at (drop k s) i)

pub box-drop_small : (s : List ℕ) (k : ℕ) → box_size (drop k s) ≤ box_size s
box-drop_small s zero = omega arith
box-drop_small [] (suc k) = omega arith
box-drop_small (a ∷ s) (suc k) =
    let i = box-drop_small s k in
    let m : 1 * box_size s ≤ (a + 1) * box_size s = mul-le-mul (let o : 1 ≤ a + 1 = omega arith in o) (let r : box_size s ≤ box_size s = omega arith in r) in
    omega (arith, i, m)

pub stride-box : (s : List ℕ) (k : ℕ) → k < length s → stride s k ≡ box_size (drop (k + 1) s)
stride-box [] k inside = absurd (omega arith)
stride-box (a ∷ s) zero inside = refl
stride-box (a ∷ s) (suc k) inside = let e : suc k + 1 ≡ suc (k + 1) = omega arith in stride-box s k (omega arith) ∙ ap (λ n. box_size (drop n (a ∷ s))) (sym e)

pub box_at : (s : List ℕ) (k units : ℕ) → k < length s → units ≡ slice_index s k → box_size (drop k s) ≡ (units + 1) * box_size (drop (k + 1) s)
box_at s k units inside is = box_of_drop s k inside ∙ ap (λ n. (n + 1) * box_size (drop (k + 1) s)) (sym is)

pub costs-next : (s p old new : List ℕ) (k units price : ℕ) → k < length s → units ≡ slice_index s k → price ≡ slice_index p k →
    ((i : ℕ) → i < (units + 1) * box_size (drop (k + 1) s) → slice_index new i ≡ spread_at old (box_size (drop (k + 1) s)) price i) → AreCostsFrom s p (k + 1) old → AreCostsFrom s p k new
costs-next s p old new k units price inside is_units is_price spread from i below =
    let size = box_size (drop (k + 1) s) in
    let some = box_size-above_0 (drop (k + 1) s) in
    let rest : i % size < size = (let o : 1 ≤ size = some in omega arith) in
    let part = from (i % size) rest in
    let one : suc k ≡ k + 1 = omega arith in
    let row : bundle_at (drop k s) i ≡ (i / size) ∷ bundle_at (drop (k + 1) s) (i % size) =
    ap (λ xs. bundle_at xs i) (drop-cons s k 0 inside) ∙ (λ j. (i / box_size (drop (one j) s)) ∷ bundle_at (drop (one j) s) (i % box_size (drop (one j) s))) in
    let whole_cost : cost (drop k p) (bundle_at (drop k s) i) ≡ slice_index p k * (i / size) + cost (drop (k + 1) p) (bundle_at (drop (k + 1) s) (i % size)) =
    ap (cost (drop k p)) row ∙ cost-drop p k (i / size) (bundle_at (drop (k + 1) s) (i % size)) ∙ (λ j. slice_index p k * (i / size) + cost (drop (one j) p) (bundle_at (drop (k + 1) s) (i % size))) in
    let turned : (i / size) * price ≡ slice_index p k * (i / size) = (let m : (i / size) * price ≡ price * (i / size) = grind arith in m ∙ ap (λ n. n * (i / size)) is_price) in
    let split = box_at s k units inside is_units in
    let a = spread i (omega (arith, below, split)) in
    omega (arith, a, part, whole_cost, turned)

-- of no goods there is one bundle, which costs nothing
pub costs-start : (s p costs : List ℕ) (k : ℕ) → k ≡ length s → slice_index costs 0 ≡ 0 → AreCostsFrom s p k costs
costs-start s p costs k at_end is =
    let none : drop k s ≡ [] = drop_all k s (omega (arith, at_end)) in
    let P : List ℕ → Type 0 = λ xs. (i : ℕ) → i < box_size xs → slice_index costs i ≡ cost (drop k p) (bundle_at xs i) in
    subst P (sym none) (λ i inside. first i inside)
  where
    nothing : (q : List ℕ) → cost q [] ≡ 0
    nothing [] = refl
    nothing (a ∷ q) = refl

    first : (i : ℕ) → i < 1 → slice_index costs i ≡ cost (drop k p) []
    first zero h = is ∙ sym (nothing (drop k p))
    first (suc i) h = absurd (omega arith)

-- at low prices no bundle of the box costs much
pub cost-low : (s p x : List ℕ) → AreLow p → AtMost x s → cost p x + 10000 ≤ 10000 * box_size s
cost-low s [] x low within = (let b = box_size-above_0 s in omega arith)
cost-low s (a ∷ p) [] low within = (let b = box_size-above_0 s in omega arith)
cost-low [] (a ∷ p) (q ∷ x) low within = absurd within
cost-low (u ∷ s) (a ∷ p) (q ∷ x) low within =
    let i = cost-low s p x low.1 within.1 in
    let b = box_size-above_0 s in
    let m : a * q ≤ 10000 * u = mul-le-mul low.0 within.0 in
    let n : u * 1 ≤ u * box_size s = mul-le-mul (let r : u ≤ u = omega arith in r) b in
    let d : (u + 1) * box_size s ≡ u * box_size s + box_size s = grind arith in
    omega (arith, i, m, n, d)

pub low-drop : (p : List ℕ) (k : ℕ) → AreLow p → AreLow (drop k p)
low-drop p zero low = low
low-drop [] (suc k) low = tt
low-drop (a ∷ p) (suc k) low = low-drop p k low.1

pub costs-low : (s p : List ℕ) (k i : ℕ) → AreLow p → box_size s ≤ 2048 → i < box_size (drop k s) → cost (drop k p) (bundle_at (drop k s) i) ≤ 2 ^ 25
costs-low s p k i low few inside =
    let a = cost-low (drop k s) (drop k p) (bundle_at (drop k s) i) (low-drop p k low) (bundle_at-within (drop k s) i inside) in
    let b = box-drop_small s k in
    omega arith
