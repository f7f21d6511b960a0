-- Columns of units, and for how many steps the best bundles stay the same.
use Rattle.std.proofs.Common.{◌≡◌, ◌<◌, ◌≤◌, ◌⊎◌, ℕ, zero, suc, ◌+◌, ◌-◌, ◌*◌, ◌/◌, Bool, true, false, not, ◌&&◌, ◌||◌, nat_eq, nat_le, cond, min, List, [], ◌∷◌, length, slice_index, inl, inr, arith, ap, refl, sym, ◌∙◌, subst, mul-le-mul_left}
use Rattle.std.proofs.lemmas.Bool.{cases_lt, cases_eq}
use Rattle.std.proofs.lemmas.Bool.Decides.{nat_tests}
use Rattle.std.proofs.Math.Nat.{mul-div-le, mul-le-mul}
use Rattle.lot_base.specs.Goods.{quantity_in, box_size, cost, zeros, raised, AllBelow, AtMost}
use Rattle.lot_base.specs.Box.{bundle_at}
use Rattle.lot_base.proofs.Index.{bundle_at-within}
use Rattle.lot_base.proofs.Vec.{length-below}
use Rattle.demand_set.proofs.Sums.{quantity-within, units-few}
use Rattle.valuation.specs.Carried.{AreCosts, IsColumn, StaysApart, IsSteadyAt, AreSteady}
use Rattle.valuation.proofs.Carrying.{cost-raised}
use Rattle.valuation.proofs.Spread.{index-behind}

pub quantity-few : (x supply : List ℕ) (set : ℕ) → AtMost x supply → box_size supply ≤ 2048 → quantity_in x set ≤ 2047
quantity-few x supply set within small = let a = quantity-within x supply set within in let b = units-few supply set in omega (arith, a, b)

pub column_is : (s units : List ℕ) (set : ℕ) → box_size s ≤ 2048 → length units ≡ box_size s → ((k : ℕ) → k < box_size s → slice_index units k ≡ quantity_in (bundle_at s k) set) → IsColumn s set units
column_is s units set little whole each = record {
  whole = whole;
  each = each;
  small = λ k. elim (cases_lt k (box_size s)) [
    | inl inside ↦ (let q = quantity-few (bundle_at s k) s set (bundle_at-within s k inside) little in let e = each k inside in omega (arith, q, e))
    | inr behind ↦ (let e = index-behind units k (omega (arith, behind, whole)) in omega (arith, e))
  ];
}

-- where each good of a set costs 1, and any other nothing, a bundle costs its units of the set
pub length-zeros : (s : List ℕ) → length (zeros s) ≡ length s
length-zeros [] = refl
length-zeros (a ∷ s) = ap suc (length-zeros s)

pub zeros-below : (s : List ℕ) (set : ℕ) → AllBelow 4294967295 (zeros s) set
zeros-below [] set = tt
zeros-below (a ∷ s) set = (λ here. omega arith, zeros-below s (set / 2))

pub cost-nothing : (s x : List ℕ) → cost (zeros s) x ≡ 0
cost-nothing [] x = refl
cost-nothing (a ∷ s) [] = refl
cost-nothing (a ∷ s) (q ∷ x) = let i = cost-nothing s x in omega (arith, i)

pub column-costs : (s p costs : List ℕ) (set : ℕ) → box_size s ≤ 2048 → p ≡ raised (zeros s) set → AreCosts s p costs → IsColumn s set costs
column-costs s p costs set little is are = column_is s costs set little are.whole (λ k inside.
    let x = bundle_at s k in
    let long = length-below x s (bundle_at-within s k inside) in
    let raised-costs = cost-raised (zeros s) x set (length-zeros s ∙ sym long) in
    let free = cost-nothing s x in
    let e = are.each k inside ∙ ap (λ q. cost q x) is in
    omega (arith, e, raised-costs, free))

-- a bundle whose number is so far below the best
pub steady-from : (best least n worth units : ℕ) → worth ≤ best → StaysApart (best - worth) units least n → IsSteadyAt best least n worth units
steady-from best least n worth units below s = record {
  same = λ e some. s.same (omega (arith, e)) some;
  apart = λ less. let t = s.apart (omega (arith, less)) in omega (arith, t, less);
}

pub stays-none : (gap units least n : ℕ) → n ≤ 0 → StaysApart gap units least n
stays-none gap units least zero none = record { same = λ e some. absurd (omega arith); apart = λ some. omega arith }
stays-none gap units least (suc n) none = absurd (omega arith)

pub stays-more : (gap units least n : ℕ) → (gap ≡ 0 → units ≡ least) → least ≤ units → StaysApart gap units least n
stays-more gap units least n same more = record {
  same = λ e some. same e;
  apart = λ some. let k : n * least ≤ n * units = mul-le-mul_left n more in omega (arith, k, some);
}

pub stays-for : (gap units least n most : ℕ) → units < least → n ≤ most → (least - units) * most < gap → StaysApart gap units least n
stays-for gap units least n most less few small = record {
  same = λ e some. absurd (omega (arith, e, small));
  apart = λ some.
      let k : (least - units) * n ≤ (least - units) * most = mul-le-mul_left (least - units) few in
      let e : least ≡ (least - units) + units = omega (arith, less) in
      let f : n * least ≡ n * ((least - units) + units) = ap (λ z. n * z) e in
      let g : n * ((least - units) + units) ≡ (least - units) * n + n * units = grind arith in
      omega (arith, k, f, g, small);
}

pub stays-quotient : (gap units least n : ℕ) → units < least → 0 < gap → n ≤ (gap - 1) / (least - units) → StaysApart gap units least n
stays-quotient gap units least n less some few =
    let k = mul-div-le (gap - 1) (least - units) in
    stays-for gap units least n ((gap - 1) / (least - units)) less few (omega (arith, k, some))

-- the last bundle that was looked at
pub steady-next : (worth units : List ℕ) (best least first count limit now : ℕ) → now ≤ limit → AreSteady worth units best least first count limit →
    ((n : ℕ) → n ≤ now → IsSteadyAt best least n (slice_index worth count) (slice_index units count)) → AreSteady worth units best least first (count + 1) now
steady-next worth units best least first count limit now fewer old new = record { each = each }
  where
    each : (i n : ℕ) → first ≤ i → i < count + 1 → n ≤ now → IsSteadyAt best least n (slice_index worth i) (slice_index units i)
    each i n low inside few = elim (cases_lt i count) [
      | inl before ↦ old.each i n low before (omega (arith, few, fewer))
      | inr last ↦
          let e : count ≡ i = omega (arith, inside, last) in
          let P : ℕ → Type 0 = λ k. IsSteadyAt best least n (slice_index worth k) (slice_index units k) in
          subst P e (new n few)
    ]

-- none yet
pub steady-none : (worth units : List ℕ) (best least first last limit : ℕ) → last ≤ first → AreSteady worth units best least first last limit
steady-none worth units best least first last limit none = record { each = λ i n low below few. absurd (omega (arith, low, below, none)) }

-- fewer steps, and bundles of two parts
pub steady-both : (worth units : List ℕ) (best least first middle last limit now : ℕ) → now ≤ limit → AreSteady worth units best least first middle limit →
    AreSteady worth units best least middle last now → AreSteady worth units best least first last now
steady-both worth units best least first middle last limit now fewer old new = record { each = each }
  where
    each : (i n : ℕ) → first ≤ i → i < last → n ≤ now → IsSteadyAt best least n (slice_index worth i) (slice_index units i)
    each i n low inside few = elim (cases_lt i middle) [ inl before ↦ old.each i n low before (omega (arith, few, fewer)) | inr behind ↦ new.each i n behind inside few ]

-- a product with a smaller number fits too
pub fits-less : (least units limit : ℕ) → least * limit < 65536 → (least - units) * limit < 65536
fits-less least units limit fits =
    let m : (least - units) * limit ≤ least * limit = mul-le-mul (let a : least - units ≤ least = omega arith in a) (let b : limit ≤ limit = omega arith in b) in
    omega (arith, m, fits)

pub fits-fewer : (least limit now : ℕ) → now ≤ limit → least * limit < 65536 → least * now < 65536
fits-fewer least limit now fewer fits = let m : least * now ≤ least * limit = mul-le-mul_left least fewer in omega (arith, m, fits)

-- a bundle that is not near
pub stays-far : (gap units least limit n : ℕ) → (units ≡ least) ⊎ ((least - units) * limit < gap) → n ≤ limit → StaysApart gap units least n
stays-far gap units least limit n (inl same) few = stays-more gap units least n (λ e. same) (omega (arith, same))
stays-far gap units least limit n (inr far) few = elim (cases_lt units least) [
  | inl less ↦ stays-for gap units least n limit less few far
  | inr more ↦ stays-more gap units least n (λ none. absurd (omega (arith, none, far))) more
]

pub near-off : (units least gap product n : ℕ) → product ≡ n → not (nat_eq units least) && nat_le gap product ≡ false → (units ≡ least) ⊎ (n < gap)
near-off units least gap product n is off = elim (cases_eq units least) [
  | inl same ↦ inl same
  | inr other ↦ elim (cases_lt product gap) [ inl less ↦ inr (omega (arith, less, is)) | inr more ↦ absurd (contrary units least gap product other more off) ]
]
  where
    contrary : (units least gap product : ℕ) → (units ≡ least → ⊥) → gap ≤ product → not (nat_eq units least) && nat_le gap product ≡ false → ⊥
    contrary units least gap product other more off = grind (arith, nat_tests)

pub both-off : (a b : Bool) → a || b ≡ false → (a ≡ false) × (b ≡ false)
both-off true b off = absurd (cc)
both-off false b off = (refl, off)

-- the fewest units of the best of the first bundles
pub record FewestTo (most : ℕ) (units worth : List ℕ) (best count fewest : ℕ) : Type 0 where
  pub bound : (i : ℕ) → i < count → slice_index worth i ≡ best → fewest ≤ slice_index units i
  pub reached : (n : ℕ) → n ≤ most → ((i : ℕ) → i < count → slice_index worth i ≡ best → n ≤ slice_index units i) → n ≤ fewest

pub fewest-next : (most : ℕ) (units worth : List ℕ) (best count fewest this now : ℕ) → FewestTo most units worth best count fewest → this ≡ cond (nat_eq (slice_index worth count) best) (slice_index units count) most → now ≡ min fewest this →
    FewestTo most units worth best (count + 1) now
fewest-next most units worth best count fewest this now so_far this-is is = by (cases_eq (slice_index worth count) best)
  where
    low : (now ≤ fewest) × (now ≤ this)
    low = (omega (arith, is), omega (arith, is))

    by : (slice_index worth count ≡ best) ⊎ (slice_index worth count ≡ best → ⊥) → FewestTo most units worth best (count + 1) now
    by (inl same) =
        let e : nat_eq (slice_index worth count) best ≡ true = grind (arith, nat_tests) in
        let t : this ≡ slice_index units count = this-is ∙ ap (λ b. cond b (slice_index units count) most) e in
        record {
          bound = λ i below at. elim (cases_lt i count) [
            | inl before ↦ (let b = so_far.bound i before at in let l = low.0 in omega (arith, b, l))
            | inr last ↦ (let here : count ≡ i = omega (arith, below, last) in let u = ap (slice_index units) here in let l = low.1 in omega (arith, u, l, t))
          ];
          reached = λ n few each.
              let r = so_far.reached n few (λ i below at. each i (omega (arith, below)) at) in
              let h = each count (omega arith) same in
              omega (arith, r, h, t, is);
        }
    by (inr other) =
        let e : nat_eq (slice_index worth count) best ≡ false = grind (arith, nat_tests) in
        let t : this ≡ most = this-is ∙ ap (λ b. cond b (slice_index units count) most) e in
        record {
          bound = λ i below at. elim (cases_lt i count) [
            | inl before ↦ (let b = so_far.bound i before at in let l = low.0 in omega (arith, b, l))
            | inr last ↦ (let here : i ≡ count = omega (arith, below, last) in absurd (other (ap (slice_index worth) (sym here) ∙ at)))
          ];
          reached = λ n few each.
              let r = so_far.reached n few (λ i below at. each i (omega (arith, below)) at) in
              omega (arith, r, few, t, is);
        }
