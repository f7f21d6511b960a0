use Rattle.std.proofs.Common.{◌≡◌, ℕ, ◌+◌, ◌%◌, ◌≤◌, ◌<◌, ◌≢◌, List, [], ◌∷◌, length, arith, ap, inl, inr, subst, sym, ◌∙◌}
use Rattle.std.specs.Prelude.{◌⊎◌, ◌↔◌, ℤ}
use Rattle.std.proofs.lemmas.Int.{ints}
use Rattle.lot_base.specs.Goods.{at, one_more, AtMost, box_size}
use Rattle.lot_base.specs.Economy.{NoWorse}
use Rattle.lot_base.specs.Box.{bundle_at, index_of}
use Rattle.exchange_check.specs.Local.{IsLocallyStrong, IsLocalPair, IsLocalAt}
use Rattle.valuation.specs.Values.{valuation_of}
use Rattle.lot_base.specs.Strides.{stride}
use Rattle.lot_base.proofs.Vec.{length-below, at-below, length-one_more, AtMost-one_more}
use Rattle.exchange_check.proofs.Points.{one, one-same, one-other, at-up}
use Rattle.exchange_check.proofs.Local.{up-up, AtMost-of_more}
use Rattle.lot_base.proofs.Index.{box_size-above_0, index_of-bundle_at, index_of-small}
use Rattle.lot_base.proofs.Strides.{quotient, index-up}

pub AtMost-bundle_at : (s : List ℕ) (n : ℕ) → n < box_size s → AtMost (bundle_at s n) s
AtMost-bundle_at [] n h = tt
AtMost-bundle_at (c ∷ s) n h =
    let m = box_size s in
    let z = box_size-above_0 s in
    let q = quotient c m n h in
    let r : n % m < m = omega arith in
    (omega arith, AtMost-bundle_at s (n % m) r)

pub pair_in : (s w : List ℕ) (i j : ℕ) → AtMost w s → i < length s → at w i < at s i → at w j + one i j < at s j → AtMost (one_more (one_more w i) j) s
pair_in s w i j b hi f g =
    let l = length-below w s b in
    let ii : i < length w = omega arith in
    let e = at-up w i j ii in
    AtMost-one_more (one_more w i) s j (AtMost-one_more w s i b f) (omega arith)

pub pair_first : (s w : List ℕ) (i j : ℕ) → i < length s → AtMost (one_more (one_more w i) j) s → at w i < at s i
pair_first s w i j hi b =
    let c = AtMost-of_more (one_more w i) s j b in
    let l = length-below w s (AtMost-of_more w s i c) in
    let ii : i < length w = omega arith in
    let t = at-below (one_more w i) s i c in
    omega (arith, at-up w i i ii, one-same i)

pub pair_second : (s w : List ℕ) (i j : ℕ) → i < length s → j < length s → AtMost (one_more (one_more w i) j) s → at w j + one i j < at s j
pair_second s w i j hi hj b =
    let c = AtMost-of_more (one_more w i) s j b in
    let l = length-below w s (AtMost-of_more w s i c) in
    let k = length-one_more w i in
    let ii : i < length w = omega arith in
    let ij : j < length (one_more w i) = omega arith in
    let t = at-below (one_more (one_more w i) j) s j b in
    omega (arith, at-up (one_more w i) j j ij, at-up w i j ii, one-same j)

-- two units of one good, or one of each of two, by what is free
pub room_same : (s w : List ℕ) (i j f : ℕ) → AtMost w s → i < length s → j < length s → i ≡ j → f + at w i ≡ at s i → (2 ≤ f) ↔ AtMost (one_more (one_more w i) j) s
room_same s w i j f b hi hj e free =
    let o = ap (one i) e in
    let p = one-same i in
    let x = ap (at w) e in
    let y = ap (at s) e in
    ((λ h. pair_in s w i j b hi (omega arith) (omega arith)), (λ c. let t = pair_second s w i j hi hj c in omega arith))

pub room_other : (s w : List ℕ) (i j f g : ℕ) → AtMost w s → i < length s → j < length s → i ≢ j → f + at w i ≡ at s i → g + at w j ≡ at s j
    → ((1 ≤ f) × (1 ≤ g)) ↔ AtMost (one_more (one_more w i) j) s
room_other s w i j f g b hi hj n free freeg =
    let o = one-other i j n in (
      (λ h. let h0 = h.0 in let h1 = h.1 in pair_in s w i j b hi (omega arith) (omega arith)),
      (λ c. let t = pair_first s w i j hi c in let t2 = pair_second s w i j hi hj c in (omega arith, omega arith)),
    )

-- a unit of k in the place of j
pub in_place : (s w : List ℕ) (i j k : ℕ) → i < length s → k ≢ i → at w k < at s k → AtMost (one_more (one_more w i) j) s → AtMost (one_more (one_more w i) k) s
in_place s w i j k hi n h b =
    let c = AtMost-of_more (one_more w i) s j b in
    let l = length-below w s (AtMost-of_more w s i c) in
    let ii : i < length w = omega arith in
    let z = one-other i k (λ e. n (sym e)) in
    AtMost-one_more (one_more w i) s k c (omega (arith, at-up w i k ii))

-- where the bundles of the conditions stand in the valuation_of
spot_one : (s : List ℕ) (n k : ℕ) → n < box_size s → k < length s → index_of s (one_more (bundle_at s n) k) ≡ n + stride s k
spot_one s n k h hk =
    let b = AtMost-bundle_at s n h in
    let e = index_of-bundle_at s n h in
    let f = index-up s (bundle_at s n) k (length-below (bundle_at s n) s b) hk in
    omega arith

spot_two : (s : List ℕ) (n i j : ℕ) → n < box_size s → i < length s → j < length s → index_of s (one_more (one_more (bundle_at s n) i) j) ≡ n + stride s i + stride s j
spot_two s n i j h hi hj =
    let w = bundle_at s n in
    let b = AtMost-bundle_at s n h in
    let e = spot_one s n i h hi in
    let f = index-up s (one_more w i) j (length-one_more w i ∙ length-below w s b) hj in
    omega arith

pub spot_within : (s : List ℕ) (n i j : ℕ) → n < box_size s → i < length s → j < length s → AtMost (one_more (one_more (bundle_at s n) i) j) s → n + stride s i + stride s j < box_size s
spot_within s n i j h hi hj b =
    let e = spot_two s n i j h hi hj in
    let f = index_of-small s (one_more (one_more (bundle_at s n) i) j) b in
    omega arith

read_none : (s v : List ℕ) (n : ℕ) → n < box_size s → at v (index_of s (bundle_at s n)) ≡ at v n
read_none s v n h = ap (at v) (index_of-bundle_at s n h)

read_one : (s v : List ℕ) (n k c : ℕ) → n < box_size s → k < length s → c ≡ stride s k → at v (index_of s (one_more (bundle_at s n) k)) ≡ at v (n + c)
read_one s v n k c h hk e = ap (at v) (let f = spot_one s n k h hk in omega arith)

read_two : (s v : List ℕ) (n i j a b : ℕ) → n < box_size s → i < length s → j < length s → a ≡ stride s i → b ≡ stride s j
    → at v (index_of s (one_more (one_more (bundle_at s n) i) j)) ≡ at v (n + a + b)
read_two s v n i j a b h hi hj e f = ap (at v) (let g = spot_two s n i j h hi hj in omega arith)

pub falls_is : (s v : List ℕ) (n i j a b : ℕ) → n < box_size s → i < length s → j < length s → a ≡ stride s i → b ≡ stride s j
    → (at v (n + a + b) + at v n ≤ at v (n + a) + at v (n + b))
    ↔ NoWorse (valuation_of s v) (one_more (one_more (bundle_at s n) i) j) (bundle_at s n) (one_more (bundle_at s n) i) (one_more (bundle_at s n) j)
falls_is s v n i j a b h hi hj ea eb =
    let e0 = read_none s v n h in
    let e1 = read_one s v n i a h hi ea in
    let e2 = read_one s v n j b h hj eb in
    let e3 = read_two s v n i j a b h hi hj ea eb in
    ((λ t. omega (arith, ints)), (λ t. omega (arith, ints)))

pub third_is : (s v : List ℕ) (n i j k a b c : ℕ) → n < box_size s → i < length s → j < length s → k < length s → a ≡ stride s i → b ≡ stride s j → c ≡ stride s k
    → ((at v (n + a + b) + at v (n + c) ≤ at v (n + a + c) + at v (n + b)) ⊎ (at v (n + a + b) + at v (n + c) ≤ at v (n + b + c) + at v (n + a)))
    ↔ (NoWorse (valuation_of s v) (one_more (one_more (bundle_at s n) i) j) (one_more (bundle_at s n) k) (one_more (one_more (bundle_at s n) i) k) (one_more (bundle_at s n) j)
    ⊎ NoWorse (valuation_of s v) (one_more (one_more (bundle_at s n) i) j) (one_more (bundle_at s n) k) (one_more (one_more (bundle_at s n) j) k) (one_more (bundle_at s n) i))
third_is s v n i j k a b c h hi hj hk ea eb ec =
    let e1 = read_one s v n i a h hi ea in
    let e2 = read_one s v n j b h hj eb in
    let e3 = read_one s v n k c h hk ec in
    let e4 = read_two s v n i j a b h hi hj ea eb in
    let e5 = read_two s v n i k a c h hi hk ea ec in
    let e6 = read_two s v n j k b c h hj hk eb ec in (
      (λ t. elim t [ inl o ↦ inl (omega (arith, ints)) | inr o ↦ inr (omega (arith, ints)) ]),
      (λ t. elim t [ inl o ↦ inl (omega (arith, ints)) | inr o ↦ inr (omega (arith, ints)) ]),
    )

-- the conditions on a pair are the same in either order
pub pair_turned : (s : List ℕ) (u : List ℕ → ℤ) (w : List ℕ) (i j : ℕ) → IsLocalPair s u w i j → IsLocalPair s u w j i
pair_turned s u w i j pair b =
    let B : List ℕ → Type 0 = λ r. AtMost r s in
    let t = pair (subst B (up-up w j i) b) in
    let e = ap u (up-up w i j) in
    let t0 = t.0 in
    (omega (arith, ints), (λ k hk nj ni lt. elim (t.1 k hk ni nj lt) [ inl o ↦ inr (omega (arith, ints)) | inr o ↦ inl (omega (arith, ints)) ]))

pub local_from_each : (s : List ℕ) (u : List ℕ → ℤ) → ((w : List ℕ) → AtMost w s → IsLocalAt s u w) → IsLocallyStrong s u
local_from_each s u each = (
  (λ w i j hi hj b. (each w (AtMost-of_more w s i (AtMost-of_more (one_more w i) s j b)) i j hi hj b).0),
  (λ w i j k hi hj hk ni nj b d.
      let c = AtMost-of_more w s k d in
      let l = length-below w s c in
      let ik : k < length w = omega arith in
      let t = at-below (one_more w k) s k d in
      (each w c i j hi hj b).1 k hk ni nj (omega (arith, at-up w k k ik, one-same k))),
)

pub each_from_local : (s : List ℕ) (u : List ℕ → ℤ) → IsLocallyStrong s u → (w : List ℕ) → AtMost w s → IsLocalAt s u w
each_from_local s u local w c i j hi hj b = (local.0 w i j hi hj b, (λ k hk ni nj lt. local.1 w i j k hi hj hk ni nj b (AtMost-one_more w s k c lt)))
