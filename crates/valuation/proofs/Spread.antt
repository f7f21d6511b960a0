-- What the bundles of more and more goods cost, from the last good on.
use Rattle.std.proofs.Common.{◌≡◌, ◌<◌, ◌≤◌, ℕ, zero, suc, ◌+◌, ◌-◌, ◌*◌, ◌/◌, ◌%◌, ◌^◌, List, [], ◌∷◌, ◌++◌, length, slice_index, drop, inl, inr, arith, ap, refl, sym, ◌∙◌, subst}
use Rattle.std.proofs.Math.Nat.{div-eq-sub-div, mod-eq-sub-mod, div-eq_of_lt, mod-eq_of_lt, div-le_self, mul-le-mul}
use Rattle.std.proofs.Math.Seq.{drop-cons, get_or-append_seam}
use Rattle.std.proofs.Math.ListN.{get_or-append}
use Rattle.std.proofs.lemmas.Bool.{cases_lt}
use Rattle.std.proofs.lemmas.List.{drop_all}
use Rattle.std.proofs.lemmas.Int.{ints}
use Rattle.lot_base.specs.Goods.{box_size, cost}
use Rattle.lot_base.specs.Box.{index_of, bundle_at}
use Rattle.lot_base.proofs.Index.{box_size-above_0, index_of-small, bundle_at-index_of}
use Rattle.lot_base.proofs.Sums.{box_of_drop}
use Rattle.valuation.specs.Values.{AreValues, valuation_of}
use Rattle.valuation.specs.Carried.{AreCosts, AreLowCosts, AreLowered, IsSpread, IsLeft, CarriesAt, low}
use Rattle.valuation.proofs.Carrying.{cut-less, empty-costs}
use Rattle.std.specs.Prelude.{pos, ◌+ℤ◌, ◌-ℤ◌}

-- the number at a place, by those of the first bundles
abbrev pub spread_at : List ℕ → ℕ → ℕ → ℕ → ℕ
spread_at old size price i = slice_index old (i % size) + (i / size) * price

pub spread-start : (old : List ℕ) (size price i : ℕ) → i < size → slice_index old i ≡ spread_at old size price i
spread-start old size price i inside =
    let q : i / size ≡ 0 = div-eq_of_lt inside in
    let r : slice_index old (i % size) ≡ slice_index old i = ap (slice_index old) (mod-eq_of_lt inside) in
    let z : (i / size) * price ≡ 0 * price = ap (λ n. n * price) q in
    omega (arith, r, z)

spread-more : (old : List ℕ) (size price i : ℕ) → 1 ≤ size → size ≤ i → spread_at old size price (i - size) + price ≡ spread_at old size price i
spread-more old size price i some high =
    let positive : 0 < size = omega arith in
    let q : i / size ≡ (i - size) / size + 1 = div-eq-sub-div positive high in
    let r : slice_index old (i % size) ≡ slice_index old ((i - size) % size) = ap (slice_index old) (mod-eq-sub-mod high) in
    let m : (i / size) * price ≡ ((i - size) / size + 1) * price = ap (λ n. n * price) q in
    let d : ((i - size) / size + 1) * price ≡ ((i - size) / size) * price + price = grind arith in
    omega (arith, r, m, d)

pub spread-next : (old now : List ℕ) (size price place next : ℕ) → 1 ≤ size → size ≤ place → length now ≡ place →
    ((i : ℕ) → i < place → slice_index now i ≡ spread_at old size price i) → next ≡ slice_index now (place - size) + price →
    (i : ℕ) → i < place + 1 → slice_index (now ++ next ∷ []) i ≡ spread_at old size price i
spread-next old now size price place next some high long so_far is i inside = elim (cases_lt i place) [
  | inl before ↦ get_or-append now (next ∷ []) 0 i (omega (arith, long)) ∙ so_far i before
  | inr last ↦
      let e : i ≡ place = omega arith in
      let here : slice_index (now ++ next ∷ []) (length now) ≡ next = get_or-append_seam now next [] 0 in
      let at : slice_index (now ++ next ∷ []) i ≡ next = ap (slice_index (now ++ next ∷ [])) (e ∙ sym long) ∙ here in
      let part = so_far (place - size) (omega arith) in
      let m = spread-more old size price place some high in
      let f : spread_at old size price i ≡ spread_at old size price place = ap (spread_at old size price) e in
      omega (arith, at, is, part, m, f)
]

-- no number is far above those before
pub spread-small : (old : List ℕ) (size price i low : ℕ) → ((k : ℕ) → slice_index old k ≤ low) → i ≤ 2048 → price < 2 ^ 32 → spread_at old size price i ≤ low + 2 ^ 43
spread-small old size price i low small few cheap =
    let q : i / size ≤ 2048 = (let d = div-le_self i size in omega (arith, d)) in
    let top : price ≤ 2 ^ 32 = omega arith in
    let m : (i / size) * price ≤ 2048 * 2 ^ 32 = mul-le-mul q top in
    let s = small (i % size) in
    omega (arith, m, s)

pub cost-drop : (p : List ℕ) (k q : ℕ) (x : List ℕ) → cost (drop k p) (q ∷ x) ≡ slice_index p k * q + cost (drop (suc k) p) x
cost-drop [] zero q x = omega arith
cost-drop [] (suc k) q x = omega arith
cost-drop (a ∷ p) zero q x = refl
cost-drop (a ∷ p) (suc k) q x = cost-drop p k q x

-- the costs of the bundles of the goods from one on
pub record AreCostsFrom (s p : List ℕ) (k : ℕ) (costs : List ℕ) : Type 0 where
  pub whole : length costs ≡ box_size (drop k s)
  pub each : (i : ℕ) → i < box_size (drop k s) → slice_index costs i ≡ cost (drop k p) (bundle_at (drop k s) i)
  pub small : (i : ℕ) → slice_index costs i ≤ (length s - k) * 2 ^ 43

pub index-behind : (xs : List ℕ) (i : ℕ) → length xs ≤ i → slice_index xs i ≡ 0
index-behind [] i h = refl
index-behind (x ∷ xs) zero h = absurd (omega arith)
index-behind (x ∷ xs) (suc i) h = index-behind xs i (omega arith)

pub box-drop_small : (s : List ℕ) (k : ℕ) → box_size (drop k s) ≤ box_size s
box-drop_small s zero = omega arith
box-drop_small [] (suc k) = omega arith
box-drop_small (a ∷ s) (suc k) =
    let i = box-drop_small s k in
    let m : 1 * box_size s ≤ (a + 1) * box_size s = mul-le-mul (let o : 1 ≤ a + 1 = omega arith in o) (let r : box_size s ≤ box_size s = omega arith in r) in
    omega (arith, i, m)

pub costs-next : (s p old new : List ℕ) (k units price : ℕ) → k < length s → units ≡ slice_index s k → price ≡ slice_index p k → box_size s ≤ 2048 → price < 2 ^ 32 →
    IsSpread units price old new → AreCostsFrom s p (k + 1) old → AreCostsFrom s p k new
costs-next s p old new k units price inside is_units is_price few cheap spread from = record {
  whole = whole;
  each = λ i below. each i below;
  small = λ i. small i;
}
  where
    size : ℕ
    size = box_size (drop (k + 1) s)

    split : box_size (drop k s) ≡ (units + 1) * size
    split = box_of_drop s k inside ∙ ap (λ n. (n + 1) * box_size (drop (k + 1) s)) (sym is_units)

    whole : length new ≡ box_size (drop k s)
    whole = spread.whole ∙ ap (λ n. (units + 1) * n) from.whole ∙ sym split

    at : (i : ℕ) → i < box_size (drop k s) → slice_index new i ≡ spread_at old size price i
    at i below = spread.each i (omega (arith, whole, below)) ∙ ap (λ n. spread_at old n price i) from.whole

    each : (i : ℕ) → i < box_size (drop k s) → slice_index new i ≡ cost (drop k p) (bundle_at (drop k s) i)
    each i below =
        let some = box_size-above_0 (drop (k + 1) s) in
        let rest : i % size < size = (let o : 1 ≤ size = some in omega arith) in
        let part = from.each (i % size) rest in
        let one : suc k ≡ k + 1 = omega arith in
        let row : bundle_at (drop k s) i ≡ (i / size) ∷ bundle_at (drop (k + 1) s) (i % size) =
        ap (λ xs. bundle_at xs i) (drop-cons s k 0 inside) ∙ (λ j. (i / box_size (drop (one j) s)) ∷ bundle_at (drop (one j) s) (i % box_size (drop (one j) s))) in
        let whole_cost : cost (drop k p) (bundle_at (drop k s) i) ≡ slice_index p k * (i / size) + cost (drop (k + 1) p) (bundle_at (drop (k + 1) s) (i % size)) =
        ap (cost (drop k p)) row ∙ cost-drop p k (i / size) (bundle_at (drop (k + 1) s) (i % size)) ∙ (λ j. slice_index p k * (i / size) + cost (drop (one j) p) (bundle_at (drop (k + 1) s) (i % size))) in
        let turned : (i / size) * price ≡ slice_index p k * (i / size) = (let m : (i / size) * price ≡ price * (i / size) = grind arith in m ∙ ap (λ n. n * (i / size)) is_price) in
        let a = at i below in
        omega (arith, a, part, whole_cost, turned)

    small : (i : ℕ) → slice_index new i ≤ (length s - k) * 2 ^ 43
    small i = elim (cases_lt i (box_size (drop k s))) [
      | inl below ↦
          let few_here = box-drop_small s k in
          let a = at i below in
          let h = spread-small old size price i ((length s - (k + 1)) * 2 ^ 43) from.small (omega (arith, below, few, few_here)) cheap in
          let e : length s - k ≡ (length s - (k + 1)) + 1 = omega arith in
          let m : (length s - k) * 2 ^ 43 ≡ ((length s - (k + 1)) + 1) * 2 ^ 43 = ap (λ n. n * 2 ^ 43) e in
          omega (arith, a, h, m)
      | inr behind ↦ let z = index-behind new i (omega (arith, whole, behind)) in omega (arith, z)
    ]

pub costs-all : (s p costs : List ℕ) → length s ≤ 6 → AreCostsFrom s p 0 costs → AreCosts s p costs
costs-all s p costs few from = record {
  whole = from.whole;
  each = from.each;
  small = λ i. let h = from.small i in let m : (length s - 0) * 2 ^ 43 ≤ 6 * 2 ^ 43 = mul-le-mul (let f : length s - 0 ≤ 6 = omega arith in f) (let r : 2 ^ 43 ≤ 2 ^ 43 = omega arith in r) in omega (arith, h, m);
}

-- the same costs in fewer bits
pub costs-lowered : (s p costs lows : List ℕ) → AreCosts s p costs → AreLowered costs lows → AreLowCosts s p lows
costs-lowered s p costs lows are lowered = record {
  whole = lowered.whole ∙ are.whole;
  each = λ i inside. let whole = are.whole in lowered.each i (omega (arith, inside, whole)) ∙ ap low (are.each i inside);
}

pub empty-lowered : (s p costs lows : List ℕ) → AreCosts s p costs → AreLowered costs lows → slice_index lows 0 ≡ 0
empty-lowered s p costs lows are lowered =
    let b = box_size-above_0 s in
    let whole = are.whole in
    lowered.each 0 (omega (arith, b, whole)) ∙ ap low (empty-costs s p costs are)

-- each value less the cost of its bundle is its surplus
pub left-carries : (s p values costs worth : List ℕ) → AreValues values → AreLowCosts s p costs → IsLeft values costs worth → CarriesAt s worth (valuation_of s values) p
left-carries s p values costs worth are priced left x within =
    let i = index_of-small s x within in
    let whole = priced.whole in
    let v = slice_index values (index_of s x) in
    let few : v < 10000 = are.below (index_of s x) in
    let e = left.each (index_of s x) (omega (arith, i, whole)) in
    let c = priced.each (index_of s x) i ∙ ap (λ y. low (cost p y)) (bundle_at-index_of s x within) in
    let same : (pos v -ℤ pos (cost p x)) +ℤ pos 1 ≡ pos (v + 1) -ℤ pos (cost p x) = omega (arith, ints) in
    let less = cut-less (pos (v + 1)) ((pos v -ℤ pos (cost p x)) +ℤ pos 1) (cost p x) same in
    e ∙ ap (λ n. v + 1 - n) c ∙ low-less v (cost p x) few ∙ sym less
  where
    low-less : (v n : ℕ) → v < 10000 → (v + 1) - low n ≡ (v + 1) - n
    low-less v n few = omega arith

pub left-empty : (values costs worth : List ℕ) → AreValues values → 1 ≤ length costs → slice_index costs 0 ≡ 0 → IsLeft values costs worth → slice_index worth 0 ≡ 1
left-empty values costs worth are some none left =
    let e = left.each 0 (omega (arith, some)) in
    let v = are.empty in
    omega (arith, e, none, v)

-- of no goods there is one bundle, which costs nothing
pub costs-start : (s p costs : List ℕ) (k : ℕ) → k ≡ length s → costs ≡ 0 ∷ [] → AreCostsFrom s p k costs
costs-start s p costs k at_end is =
    let none : drop k s ≡ [] = drop_all k s (omega (arith, at_end)) in
    let P : List ℕ → Type 0 = λ xs. (i : ℕ) → i < box_size xs → slice_index (0 ∷ []) i ≡ cost (drop k p) (bundle_at xs i) in
    let Q : List ℕ → Type 0 = λ cs. AreCostsFrom s p k cs in
    subst Q (sym is) (record { whole = sym (ap box_size none); each = subst P (sym none) first; small = small })
  where
    nothing : (q : List ℕ) → cost q [] ≡ 0
    nothing [] = refl
    nothing (a ∷ q) = refl

    first : (i : ℕ) → i < 1 → slice_index (0 ∷ []) i ≡ cost (drop k p) []
    first zero h = sym (nothing (drop k p))
    first (suc i) h = absurd (omega arith)

    small : (i : ℕ) → slice_index (0 ∷ []) i ≤ (length s - k) * 2 ^ 43
    small zero = omega arith
    small (suc i) = let z = index-behind (0 ∷ []) (suc i) (omega arith) in omega (arith, z)

pub costs-few : (s costs : List ℕ) (k next units : ℕ) → k < length s → next ≡ k + 1 → units ≡ slice_index s k → box_size s ≤ 2048 → length costs ≡ box_size (drop next s) → (units + 1) * length costs ≤ 2048
costs-few s costs k next units inside one is few whole =
    let split : box_size (drop k s) ≡ (units + 1) * box_size (drop (k + 1) s) = box_of_drop s k inside ∙ ap (λ n. (n + 1) * box_size (drop (k + 1) s)) (sym is) in
    let same : (units + 1) * length costs ≡ (units + 1) * box_size (drop (k + 1) s) = ap (λ n. (units + 1) * n) (whole ∙ ap (λ n. box_size (drop n s)) one) in
    let small = box-drop_small s k in
    omega (arith, split, same, small, few)

pub costs-low : (n k : ℕ) (costs : List ℕ) → n ≤ 6 → ((i : ℕ) → slice_index costs i ≤ (n - k) * 2 ^ 43) → (i : ℕ) → slice_index costs i ≤ 2 ^ 50
costs-low n k costs few small i =
    let f : n - k ≤ 6 = omega (arith, few) in
    let r : 2 ^ 43 ≤ 2 ^ 43 = omega arith in
    let m : (n - k) * 2 ^ 43 ≤ 6 * 2 ^ 43 = mul-le-mul f r in
    let h = small i in
    omega (arith, h, m)
