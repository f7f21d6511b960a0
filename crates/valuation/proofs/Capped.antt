-- What a bundle is worth where at most so many units count: all of its units, or as much as with one unit less.
use Rattle.std.proofs.Common.{◌≡◌, ◌<◌, ◌≤◌, ℕ, zero, suc, ◌+◌, ◌-◌, ◌*◌, Bool, true, nat_le, List, [], ◌∷◌, length, slice_index, take, map, filter, inl, inr, arith, ap, refl, sym, ◌∙◌, subst}
use Rattle.std.proofs.lemmas.Bool.{cases_lt}
use Rattle.std.proofs.lemmas.Bool.Decides.{nat_tests}
use Rattle.std.proofs.Math.Nat.{mul-le-mul}
use Rattle.lot_base.specs.Goods.{cost, zeros, at, one_less, AtMost, box_size}
use Rattle.lot_base.specs.Box.{box, bundle_at, index_of}
use Rattle.lot_base.proofs.Demand.{greatest_bounds_units, greatest_found, IsIn-filter, filter-IsIn, AtMost-zeros}
use Rattle.lot_base.proofs.Index.{bundle_at-within, bundle_at-index_of, index_of-bundle_at, length-bundle_at}
use Rattle.lot_base.proofs.Lists.{IsIn-box, AtMost-box}
use Rattle.lot_base.proofs.Vec.{AtMost-one_less, within_from_at}
use Rattle.valuation.specs.Capping.{IsBestLess, AreBefore}
use Rattle.valuation.specs.Carried.{AreCosts}
use Rattle.valuation.specs.Forms.{total, capped_value}
use Rattle.lot_base.specs.Strides.{stride, AreStrides}
use Rattle.valuation.proofs.Mapped.{map-at}
use Rattle.lot_base.proofs.Strides.{index-down, stride_positive}

same : (x : List ℕ) → AtMost x x
same [] = tt
same (q ∷ x) = (omega arith, same x)

trans : (x y z : List ℕ) → AtMost x y → AtMost y z → AtMost x z
trans [] [] [] h i = tt
trans [] [] (c ∷ z) h i = absurd i
trans [] (b ∷ y) z h i = absurd h
trans (a ∷ x) [] z h i = absurd h
trans (a ∷ x) (b ∷ y) [] h i = absurd i
trans (a ∷ x) (b ∷ y) (c ∷ z) h i = (let p = h.0 in let q = i.0 in omega (arith, p, q), trans x y z h.1 i.1)

cost-below : (v y x : List ℕ) → AtMost y x → cost v y ≤ cost v x
cost-below [] y x h = omega arith
cost-below (p ∷ v) [] x h = omega arith
cost-below (p ∷ v) (a ∷ y) [] h = absurd h
cost-below (p ∷ v) (a ∷ y) (b ∷ x) h =
    let i = cost-below v y x h.1 in
    let m : p * a ≤ p * b = mul-le-mul (let r : p ≤ p = omega arith in r) h.0 in
    omega (arith, i, m)

pub less-in : (y x : List ℕ) (k : ℕ) → AtMost y x → at y k < at x k → AtMost y (one_less x k)
less-in [] [] k h lt = h
less-in [] (b ∷ x) k h lt = absurd h
less-in (a ∷ y) [] k h lt = absurd h
less-in (a ∷ y) (b ∷ x) zero h lt = (omega (arith, lt), h.1)
less-in (a ∷ y) (b ∷ x) (suc k) h lt = (h.0, less-in y x k h.1 lt)

fewer : (y x : List ℕ) → AtMost y x → total y < total x → (k : ℕ) × (at y k < at x k)
fewer [] [] h lt = absurd (omega arith)
fewer [] (b ∷ x) h lt = absurd h
fewer (a ∷ y) [] h lt = absurd h
fewer (a ∷ y) (b ∷ x) h lt = elim (cases_lt a b) [
  | inl less ↦ (0, less)
  | inr more ↦ let t = fewer y x h.1 (let p = h.0 in omega (arith, p, more, lt)) in (suc t.0, t.1)
]

pub total-zeros : (x : List ℕ) → total (zeros x) ≡ 0
total-zeros [] = refl
total-zeros (q ∷ x) = let i = total-zeros x in omega (arith, i)

passes : (n cap : ℕ) → n ≤ cap → nat_le n cap ≡ true
passes n cap h = grind (arith, nat_tests)

passed : (n cap : ℕ) → nat_le n cap ≡ true → n ≤ cap
passed n cap h = grind (arith, nat_tests)

pub bounded : (v : List ℕ) (cap : ℕ) (x y : List ℕ) → AtMost y x → total y ≤ cap → cost v y ≤ capped_value v cap x
unfolding capped_value
bounded v cap x y h few =
    greatest_bounds_units (cost v) y (filter (λ z. nat_le (total z) cap) (box x)) (IsIn-filter (λ z. nat_le (total z) cap) y (box x) (IsIn-box y x h) (passes (total y) cap few))

pub record Reaches (v : List ℕ) (cap : ℕ) (x : List ℕ) : Type 0 where
  pub bundle : List ℕ
  pub below : AtMost bundle x
  pub few : total bundle ≤ cap
  pub is : cost v bundle ≡ capped_value v cap x

pub reached : (v : List ℕ) (cap : ℕ) (x : List ℕ) → Reaches v cap x
unfolding capped_value
reached v cap x =
    let t : List ℕ → Bool = λ z. nat_le (total z) cap in
    let none : total (zeros x) ≤ cap = (let z = total-zeros x in omega (arith, z)) in
    let f = greatest_found (cost v) (zeros x) (filter t (box x)) (IsIn-filter t (zeros x) (box x) (IsIn-box (zeros x) x (AtMost-zeros x)) (passes (total (zeros x)) cap none)) in
    let m = filter-IsIn t f.bundle (box x) f.«in» in
    record { bundle = f.bundle; below = AtMost-box f.bundle x m.0; few = passed (total f.bundle) cap m.1; is = f.is }

-- all of its units count
pub capped-all : (v : List ℕ) (cap : ℕ) (x : List ℕ) → total x ≤ cap → cost v x ≡ capped_value v cap x
capped-all v cap x few =
    let b = bounded v cap x x (same x) few in
    let r = reached v cap x in
    let c = cost-below v r.bundle x r.below in
    let e = r.is in
    omega (arith, b, c, e)

-- with a unit less it is worth no more
less-worth : (v : List ℕ) (cap : ℕ) (x : List ℕ) (k : ℕ) → capped_value v cap (one_less x k) ≤ capped_value v cap x
less-worth v cap x k =
    let r = reached v cap (one_less x k) in
    let b = bounded v cap x r.bundle (trans r.bundle (one_less x k) x r.below (AtMost-one_less x x k (same x))) r.few in
    let e = r.is in
    omega (arith, b, e)

-- with a certain unit less it is worth as much
record Spares (v : List ℕ) (cap : ℕ) (x : List ℕ) : Type 0 where
  pub good : ℕ
  pub has : 0 < at x good
  pub is : capped_value v cap x ≤ capped_value v cap (one_less x good)

spares : (v : List ℕ) (cap : ℕ) (x : List ℕ) → cap < total x → Spares v cap x
spares v cap x many =
    let r = reached v cap x in
    let few = r.few in
    let t = fewer r.bundle x r.below (omega (arith, few, many)) in
    let lt = t.1 in
    let b = bounded v cap (one_less x t.0) r.bundle (less-in r.bundle x t.0 r.below lt) few in
    let e = r.is in
    record { good = t.0; has = omega (arith, lt); is = omega (arith, b, e) }

-- the place of the bundle with a unit less
record Lower (s : List ℕ) (i k : ℕ) : Type 0 where
  pub some : 1 ≤ stride s k
  pub few : stride s k ≤ i
  pub inside : i - stride s k < box_size s
  pub is : bundle_at s (i - stride s k) ≡ one_less (bundle_at s i) k

lower : (s : List ℕ) (i k : ℕ) → i < box_size s → k < length s → 0 < at (bundle_at s i) k → Lower s i k
lower s i k inside good has =
    let x = bundle_at s i in
    let within = bundle_at-within s i inside in
    let d = index-down s x k (length-bundle_at s i) has in
    let e = index_of-bundle_at s i inside in
    let p = stride_positive s k good in
    let below = AtMost-one_less x s k within in
    let place : i - stride s k ≡ index_of s (one_less x k) = omega (arith, d, e) in
    record {
      some = omega (arith, p);
      few = omega (arith, d, e);
      inside = omega (arith, inside);
      is = ap (bundle_at s) place ∙ bundle_at-index_of s (one_less x k) below;
    }

pub before-steps : (s steps x : List ℕ) (i : ℕ) → x ≡ bundle_at s i → i < box_size s → AreStrides s steps → AreBefore x steps i
before-steps s steps x i is inside strides =
    let P : List ℕ → Type 0 = λ z. AreBefore z steps i in
    subst P (sym is) (record {
      some = λ k good has. let n = length-bundle_at s i in let l = lower s i k inside (omega (arith, good, n)) has in let e = strides k (omega (arith, good, n)) in let o = l.some in omega (arith, e, o);
      few = λ k good has. let n = length-bundle_at s i in let l = lower s i k inside (omega (arith, good, n)) has in let e = strides k (omega (arith, good, n)) in let o = l.few in omega (arith, e, o);
    })

best-capped : (s steps v worth : List ℕ) (i cap value : ℕ) → i < box_size s → AreStrides s steps → worth ≡ map (capped_value v cap) (take i (box s)) → cap < total (bundle_at s i) →
    IsBestLess (bundle_at s i) steps worth i value → value ≡ capped_value v cap (bundle_at s i)
best-capped s steps v worth i cap value inside strides so_far many best =
    let t = spares v cap x many in
    let low = best.bound t.good (good_in t.good t.has) t.has in
    let e = below t.good t.has in
    let h = t.is in
    let top = best.least (capped_value v cap x) (λ k good has. let f = below k has in let w = less-worth v cap x k in omega (arith, f, w)) in
    omega (arith, low, e, h, top)
  where
    x : List ℕ
    x = bundle_at s i

    good_in : (k : ℕ) → 0 < at x k → k < length x
    good_in k has = within_from_at x k has

    below : (k : ℕ) → 0 < at x k → slice_index worth (i - slice_index steps k) ≡ capped_value v cap (one_less x k)
    below k has =
        let n = length-bundle_at s i in
        let g = good_in k has in
        let k_in : k < length s = omega (arith, g, n) in
        let l = lower s i k inside k_in has in
        let e : i - slice_index steps k ≡ i - stride s k = ap (λ z. i - z) (strides k k_in) in
        let some = l.some in
        let few = l.few in
        ap (slice_index worth) e
        ∙ ap (λ w. slice_index w (i - stride s k)) so_far
        ∙ map-at (capped_value v cap) s i (i - stride s k) (omega (arith, some, few)) l.inside
        ∙ ap (capped_value v cap) l.is

-- the value of the bundle at a place, by those before it
pub capped-next : (s steps v costs worth x : List ℕ) (i cap value : ℕ) → x ≡ bundle_at s i → i < box_size s → AreStrides s steps → AreCosts s v costs → worth ≡ map (capped_value v cap) (take i (box s)) →
    (total x ≤ cap → value ≡ slice_index costs i) → (cap < total x → IsBestLess x steps worth i value) → value ≡ capped_value v cap (bundle_at s i)
capped-next s steps v costs worth x i cap value is inside strides priced so_far all less = elim (cases_lt cap (total x)) [
  | inl many ↦
      let P : List ℕ → Type 0 = λ z. IsBestLess z steps worth i value in
      let t = ap total is in
      best-capped s steps v worth i cap value inside strides so_far (omega (arith, t, many)) (subst P is (less many))
  | inr few ↦
      let t = ap total is in
      all few ∙ priced.each i inside ∙ capped-all v cap (bundle_at s i) (omega (arith, t, few))
]

-- one good more of which the bundle may have a unit
pub best-next : (x steps worth : List ℕ) (index good old new : ℕ) → ((k : ℕ) → k < good → 0 < at x k → slice_index worth (index - slice_index steps k) ≤ old) → old ≤ new →
    (0 < at x good → slice_index worth (index - slice_index steps good) ≤ new) → (k : ℕ) → k < good + 1 → 0 < at x k → slice_index worth (index - slice_index steps k) ≤ new
best-next x steps worth index good old new so_far more here k inside has = elim (cases_lt k good) [
  | inl before ↦ (let s = so_far k before has in omega (arith, s, more))
  | inr last ↦
      let e : good ≡ k = omega (arith, inside, last) in
      let P : ℕ → Type 0 = λ n. 0 < at x n → slice_index worth (index - slice_index steps n) ≤ new in
      subst P e here has
]
