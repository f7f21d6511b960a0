-- Why surpluses may be carried along: a step on a set takes from each surplus the units that the bundle has of the set; and the
-- bundles whose number is the greatest are those that are demanded.
use Rattle.std.proofs.Common.{◌≡◌, ◌<◌, ◌≤◌, ℕ, zero, suc, ◌+◌, ◌-◌, ◌*◌, ◌/◌, ◌%◌, Bool, true, false, nat_eq, cond, List, [], ◌∷◌, length, slice_index, inl, inr, arith, ap, refl, sym, ◌∙◌}
use Rattle.std.specs.Prelude.{ℤ, pos, negsuc, ◌+ℤ◌, ◌-ℤ◌, ◌≤ℤ◌, filter, ◌==◌}
use Rattle.std.specs.Ordering.{int_eq}
use Rattle.std.proofs.lemmas.Int.{ints}
use Rattle.std.proofs.lemmas.Bool.Decides.{Decides-int_eq}
use Rattle.lot_base.specs.Goods.{box_size, quantity_in, raised, cost, AtMost}
use Rattle.lot_base.specs.Box.{box, index_of, bundle_at, IsIn}
use Rattle.lot_base.specs.Economy.{surplus, indirect_utility, demand}
use Rattle.lot_base.proofs.Sets.{raised-plus, quantity_in-cost}
use Rattle.lot_base.proofs.Vectors.{set_of}
use Rattle.lot_base.proofs.Vec.{cost-plus_left, length-below}
use Rattle.lot_base.proofs.Index.{box_size-above_0, index_of-small, bundle_at-index_of, bundle_at-within, index_of-bundle_at}
use Rattle.lot_base.proofs.Lists.{AtMost-box}
use Rattle.lot_base.proofs.Demand.{surplus_bounds, surplus_reached}
use Rattle.std.proofs.Common.{subst}
use Rattle.std.proofs.lemmas.Bool.{cases_lt}
use Rattle.valuation.specs.Carried.{raised_by, cut, AreCosts, IsColumn, CarriesAt, IsPaid, IsSteadyAt, AreSteady}
use Rattle.valuation.proofs.Greatest.{IsGreatest}

pub length-raised : (p : List ℕ) (set : ℕ) → length (raised p set) ≡ length p
length-raised [] set = refl
length-raised (q ∷ p) set = ap suc (length-raised p (set / 2))

pub length-raised_by : (n set : ℕ) (p : List ℕ) → length (raised_by n set p) ≡ length p
length-raised_by zero set p = refl
length-raised_by (suc n) set p = length-raised (raised_by n set p) set ∙ length-raised_by n set p

pub cost-raised : (p x : List ℕ) (set : ℕ) → length p ≡ length x → cost (raised p set) x ≡ cost p x + quantity_in x set
cost-raised p x set e =
    ap (λ q. cost q x) (raised-plus p set)
    ∙ cost-plus_left p (set_of (length p) set) x
    ∙ ap (λ k. cost p x + k) (ap (λ n. cost (set_of n set) x) e ∙ sym (quantity_in-cost x set))

pub cost-raised_by : (n set : ℕ) (p x : List ℕ) → length p ≡ length x → cost (raised_by n set p) x ≡ cost p x + n * quantity_in x set
cost-raised_by zero set p x e = omega arith
cost-raised_by (suc n) set p x e =
    let i = cost-raised_by n set p x e in
    let c = cost-raised (raised_by n set p) x set (length-raised_by n set p ∙ e) in
    let m : suc n * quantity_in x set ≡ n * quantity_in x set + quantity_in x set = omega arith in
    omega (arith, i, c, m)

-- a number that is cut off at 0
cut-is : (z : ℤ) (n : ℕ) → n ≡ cut z → 1 ≤ n → z ≡ pos n
cut-is (pos m) n e some = ap pos (sym e)
cut-is (negsuc m) n e some = absurd (omega (arith, e, some))

cut-above : (z : ℤ) (n : ℕ) → n ≡ cut z → z ≤ℤ pos n
cut-above (pos m) n e = omega (arith, ints)
cut-above (negsuc m) n e = omega (arith, ints)

pub cut-less : (z y : ℤ) (n : ℕ) → y ≡ z -ℤ pos n → cut y ≡ cut z - n
cut-less (pos a) (pos b) n e = omega (arith, ints)
cut-less (pos a) (negsuc b) n e = omega (arith, ints)
cut-less (negsuc a) (pos b) n e = absurd (omega (arith, ints))
cut-less (negsuc a) (negsuc b) n e = omega arith

pub surplus-raised_by : (u : List ℕ → ℤ) (n set : ℕ) (p x : List ℕ) → length p ≡ length x → surplus u (raised_by n set p) x ≡ surplus u p x -ℤ pos (n * quantity_in x set)
surplus-raised_by u n set p x e = let c = cost-raised_by n set p x e in omega (arith, ints)

-- after the steps each number is that of the surplus at the new prices
pub carried : (s worth now units : List ℕ) (u : List ℕ → ℤ) (p : List ℕ) (n set : ℕ) → length worth ≡ box_size s → IsColumn s set units → IsPaid n units worth now →
    length p ≡ length s → CarriesAt s worth u p → CarriesAt s now u (raised_by n set p)
carried s worth now units u p n set whole column paid goods c x b =
    let i = index_of-small s x b in
    let taken = paid.each (index_of s x) (omega (arith, i, whole)) in
    let held : slice_index units (index_of s x) ≡ quantity_in x set = column.each (index_of s x) i ∙ ap (λ z. quantity_in z set) (bundle_at-index_of s x b) in
    let r = surplus-raised_by u n set p x (goods ∙ sym (length-below x s b)) in
    let e : surplus u (raised_by n set p) x +ℤ pos 1 ≡ (surplus u p x +ℤ pos 1) -ℤ pos (n * quantity_in x set) = omega (arith, ints) in
    let less = cut-less (surplus u p x +ℤ pos 1) (surplus u (raised_by n set p) x +ℤ pos 1) (n * quantity_in x set) e in
    taken ∙ (λ k. c x b k - n * held k) ∙ sym less

-- the greatest number is that of the indirect utility
pub best_is : (s worth : List ℕ) (u : List ℕ → ℤ) (p : List ℕ) (best : ℕ) → length worth ≡ box_size s → CarriesAt s worth u p → IsGreatest worth best →
    pos best ≡ indirect_utility s u p +ℤ pos 1
best_is s worth u p best whole c g =
    let top = surplus_reached s u p in
    let i = index_of-small s top.bundle top.below in
    let at_top = cut-above (surplus u p top.bundle +ℤ pos 1) (slice_index worth (index_of s top.bundle)) (c top.bundle top.below) in
    let under = g.bound (index_of s top.bundle) (omega (arith, i, whole)) in
    let z = g.at.place in
    let below = g.at.below in
    let inside : z < box_size s = omega (arith, below, whole) in
    let within = bundle_at-within s z inside in
    let place_is : slice_index worth (index_of s (bundle_at s z)) ≡ best = ap (slice_index worth) (index_of-bundle_at s z inside) ∙ g.at.reached in
    let at_place = cut-is (surplus u p (bundle_at s z) +ℤ pos 1) best (sym place_is ∙ c (bundle_at s z) within) g.some in
    let over = surplus_bounds s u p (bundle_at s z) within in
    let is = top.is in
    omega (arith, ints)

pub filter-same : (t r : List ℕ → Bool) (xs : List (List ℕ)) → ((x : List ℕ) → IsIn x xs → t x ≡ r x) → filter t xs ≡ filter r xs
filter-same t r [] same = refl
filter-same t r (x ∷ xs) same =
    (λ i. cond (same x (inl refl) i) (x ∷ filter t xs) (filter t xs))
    ∙ ap (λ rest. cond (r x) (x ∷ rest) rest) (filter-same t r xs (λ y h. same y (inr h)))

-- the two tests are one
test-same : (z : ℤ) (w best : ℕ) (a v : ℤ) → z ≡ a +ℤ pos 1 → w ≡ cut z → pos best ≡ v +ℤ pos 1 → 1 ≤ best → nat_eq w best ≡ int_eq a v
test-same (pos n) w best a v is e f some = grind (arith, ints, Decides-int_eq)
test-same (negsuc n) w best a v is e f some = grind (arith, ints, Decides-int_eq)

-- the bundles with the greatest number are the demand
pub demand_is : (s worth : List ℕ) (u : List ℕ → ℤ) (p : List ℕ) (best : ℕ) → length worth ≡ box_size s → CarriesAt s worth u p → IsGreatest worth best →
    filter (λ x. slice_index worth (index_of s x) == best) (box s) ≡ demand s u p
unfolding demand
demand_is s worth u p best whole c g =
    let v = best_is s worth u p best whole c g in
    filter-same (λ x. slice_index worth (index_of s x) == best) (λ x. int_eq (surplus u p x) (indirect_utility s u p)) (box s)
    (λ x h. test-same (surplus u p x +ℤ pos 1) (slice_index worth (index_of s x)) best (surplus u p x) (indirect_utility s u p) refl (c x (AtMost-box x s h)) v g.some)

-- The same with integers: numbers that are each as far from the surplus.
demand_by : (s : List ℕ) (u : List ℕ → ℤ) (p : List ℕ) (g : List ℕ → ℤ) (lift best : ℤ) (z : List ℕ) → ((x : List ℕ) → AtMost x s → g x ≡ surplus u p x +ℤ lift) →
    ((x : List ℕ) → AtMost x s → g x ≤ℤ best) → AtMost z s → g z ≡ best → filter (λ x. int_eq (g x) best) (box s) ≡ demand s u p
unfolding demand
demand_by s u p g lift best z each bound within reached =
    let top = surplus_reached s u p in
    let at_top = each top.bundle top.below in
    let under = bound top.bundle top.below in
    let at_z = each z within in
    let over = surplus_bounds s u p z within in
    let is = top.is in
    let v : best ≡ indirect_utility s u p +ℤ lift = omega (arith, ints) in
    filter-same (λ x. int_eq (g x) best) (λ x. int_eq (surplus u p x) (indirect_utility s u p)) (box s)
    (λ x h. int-test-same (g x) best (surplus u p x) (indirect_utility s u p) lift (each x (AtMost-box x s h)) v)
  where
    int-test-same : (w best a v lift : ℤ) → w ≡ a +ℤ lift → best ≡ v +ℤ lift → int_eq w best ≡ int_eq a v
    int-test-same w best a v lift e f = grind (arith, ints, Decides-int_eq)

test-apart : (t : ℤ) (w best a l : ℕ) → t ≤ℤ pos w → w < best → l + w < best + a → int_eq (t -ℤ pos a) (pos best -ℤ pos l) ≡ nat_eq w best
test-apart t w best a l low less apart = grind (arith, ints, Decides-int_eq)

test-equal : (t : ℤ) (w best a l : ℕ) → t ≡ pos best → w ≡ best → a ≡ l → int_eq (t -ℤ pos a) (pos best -ℤ pos l) ≡ nat_eq w best
test-equal t w best a l top e d = grind (arith, ints, Decides-int_eq)

-- after steps for which every bundle is steady the same bundles are demanded
pub steady_is : (s worth units : List ℕ) (u : List ℕ → ℤ) (p : List ℕ) (best least most n set : ℕ) → length worth ≡ box_size s → IsColumn s set units → length p ≡ length s → CarriesAt s worth u p →
    IsGreatest worth best → AreSteady worth units best least 0 (length worth) most → n ≤ most → demand s u (raised_by n set p) ≡ demand s u p
steady_is s worth units u p best least most zero set whole column goods c g steady few = refl
steady_is s worth units u p best least most (suc m) set whole column goods c g steady few =
    sym (demand_by s u (raised_by (suc m) set p) now (pos 1) (pos best -ℤ pos (suc m * least)) z now_each now_bound within now_reached)
    ∙ filter-same (λ x. int_eq (now x) (pos best -ℤ pos (suc m * least))) (λ x. slice_index worth (index_of s x) == best) (box s) (λ x h. tests x (AtMost-box x s h))
    ∙ demand_is s worth u p best whole c g
  where
    z : List ℕ
    z = bundle_at s g.at.place

    inside : g.at.place < box_size s
    inside = let b = g.at.below in omega (arith, b, whole)

    within : AtMost z s
    within = bundle_at-within s g.at.place inside

    now : List ℕ → ℤ
    now x = (surplus u p x +ℤ pos 1) -ℤ pos (suc m * quantity_in x set)

    unit_is : (x : List ℕ) → AtMost x s → slice_index units (index_of s x) ≡ quantity_in x set
    unit_is x b = column.each (index_of s x) (index_of-small s x b) ∙ ap (λ y. quantity_in y set) (bundle_at-index_of s x b)

    steady_at : (x : List ℕ) → AtMost x s → IsSteadyAt best least (suc m) (slice_index worth (index_of s x)) (quantity_in x set)
    steady_at x b =
        let i = index_of-small s x b in
        let P : ℕ → Type 0 = λ d. IsSteadyAt best least (suc m) (slice_index worth (index_of s x)) d in
        subst P (unit_is x b) (steady.each (index_of s x) (suc m) (omega arith) (omega (arith, i, whole)) few)

    now_each : (x : List ℕ) → AtMost x s → now x ≡ surplus u (raised_by (suc m) set p) x +ℤ pos 1
    now_each x b =
        let r = surplus-raised_by u (suc m) set p x (goods ∙ sym (length-below x s b)) in
        omega (arith, ints)

    at_most : (x : List ℕ) → AtMost x s → slice_index worth (index_of s x) ≤ best
    at_most x b = let i = index_of-small s x b in g.bound (index_of s x) (omega (arith, i, whole))

    low : (x : List ℕ) → AtMost x s → (surplus u p x +ℤ pos 1) ≤ℤ pos (slice_index worth (index_of s x))
    low x b = cut-above (surplus u p x +ℤ pos 1) (slice_index worth (index_of s x)) (c x b)

    top_is : (x : List ℕ) → AtMost x s → slice_index worth (index_of s x) ≡ best → surplus u p x +ℤ pos 1 ≡ pos best
    top_is x b e = cut-is (surplus u p x +ℤ pos 1) best (sym e ∙ c x b) g.some

    now_bound : (x : List ℕ) → AtMost x s → now x ≤ℤ (pos best -ℤ pos (suc m * least))
    now_bound x b = elim (cases_lt (slice_index worth (index_of s x)) best) [
      | inl less ↦ let t = (steady_at x b).apart less in let l = low x b in omega (arith, ints)
      | inr top ↦
          let e : slice_index worth (index_of s x) ≡ best = (let h = at_most x b in omega (arith, h, top)) in
          let t = top_is x b e in
          let d = ap (λ k. suc m * k) ((steady_at x b).same e (omega arith)) in
          omega (arith, ints)
    ]

    now_reached : now z ≡ (pos best -ℤ pos (suc m * least))
    now_reached =
        let e : slice_index worth (index_of s z) ≡ best = ap (slice_index worth) (index_of-bundle_at s g.at.place inside) ∙ g.at.reached in
        let t = top_is z within e in
        let d = ap (λ k. suc m * k) ((steady_at z within).same e (omega arith)) in
        omega (arith, ints)

    tests : (x : List ℕ) → AtMost x s → int_eq (now x) (pos best -ℤ pos (suc m * least)) ≡ nat_eq (slice_index worth (index_of s x)) best
    tests x b = elim (cases_lt (slice_index worth (index_of s x)) best) [
      | inl less ↦ test-apart (surplus u p x +ℤ pos 1) (slice_index worth (index_of s x)) best (suc m * quantity_in x set) (suc m * least) (low x b) less ((steady_at x b).apart less)
      | inr top ↦
          let e : slice_index worth (index_of s x) ≡ best = (let h = at_most x b in omega (arith, h, top)) in
          test-equal (surplus u p x +ℤ pos 1) (slice_index worth (index_of s x)) best (suc m * quantity_in x set) (suc m * least) (top_is x b e) e (ap (λ k. suc m * k) ((steady_at x b).same e (omega arith)))
    ]

-- the empty bundle, at place 0, costs nothing and has no units
nothing : (n : ℕ) → 1 ≤ n → (0 / n ≡ 0) × (0 % n ≡ 0)
nothing n some = (omega arith, omega arith)

nothing-costs : (s p : List ℕ) → cost p (bundle_at s 0) ≡ 0
nothing-costs [] [] = refl
nothing-costs [] (q ∷ p) = refl
nothing-costs (a ∷ s) [] = refl
nothing-costs (a ∷ s) (q ∷ p) =
    let z = nothing (box_size s) (box_size-above_0 s) in
    let rest : cost p (bundle_at s (0 % box_size s)) ≡ 0 = ap (λ n. cost p (bundle_at s n)) z.1 ∙ nothing-costs s p in
    let first : q * (0 / box_size s) ≡ q * 0 = ap (λ n. q * n) z.0 in
    omega (arith, rest, first)

no-units : (s : List ℕ) (set : ℕ) → quantity_in (bundle_at s 0) set ≡ 0
no-units [] set = refl
no-units (a ∷ s) set =
    let z = nothing (box_size s) (box_size-above_0 s) in
    let rest : quantity_in (bundle_at s (0 % box_size s)) (set / 2) ≡ 0 = ap (λ n. quantity_in (bundle_at s n) (set / 2)) z.1 ∙ no-units s (set / 2) in
    (λ i. cond (nat_eq (set % 2) 1) (z.0 i) 0 + rest i) ∙ either (nat_eq (set % 2) 1)
  where
    either : (b : Bool) → cond b 0 0 + 0 ≡ 0
    either true = refl
    either false = refl

pub empty-costs : (s p costs : List ℕ) → AreCosts s p costs → slice_index costs 0 ≡ 0
empty-costs s p costs are = are.each 0 (let b = box_size-above_0 s in omega (arith, b)) ∙ nothing-costs s p

-- what is left of the number of the empty bundle
pub empty-paid : (s worth now units : List ℕ) (n set : ℕ) → length worth ≡ box_size s → IsColumn s set units → IsPaid n units worth now → slice_index worth 0 ≡ 1 → slice_index now 0 ≡ 1
empty-paid s worth now units n set whole column paid first =
    let b = box_size-above_0 s in
    let none : slice_index units 0 ≡ 0 = column.each 0 (omega (arith, b)) ∙ no-units s set in
    let product : n * slice_index units 0 ≡ n * 0 = ap (λ k. n * k) none in
    let taken = paid.each 0 (omega (arith, b, whole)) in
    omega (arith, taken, product, first)
