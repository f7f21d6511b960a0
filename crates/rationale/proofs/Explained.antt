-- A valuation explains observations exactly where each link bounds it.
use Rattle.std.proofs.Common.{◌≡◌, ◌≤◌, ◌+◌, ◌-◌, ℕ, List, [], ◌∷◌, length, Some, arith, ap, refl, inl, inr, sym, subst, ◌∙◌}
use Rattle.std.specs.Prelude.{◌⊎◌, true, false, Option, slice_get, ℤ, pos, ◌+ℤ◌, ◌-ℤ◌, ◌≤ℤ◌}
use Rattle.std.specs.List.{AllByRecursion}
use Rattle.std.specs.Cmp.Lexicographic.{slice_cmp}
use Rattle.std.specs.Ordering.{nat_cmp, ordering_reverse}
use Rattle.std.specs.declared.cmp.Ordering.TheVariants.{Less}
use Rattle.std.proofs.lemmas.Cmp.{nat_list_cmp_total}
use Rattle.std.proofs.lemmas.Int.{ints, by_lt_z}
use Rattle.std.proofs.lemmas.Bool.{cases_Bool, cond-true, cond-false}
use Rattle.lot_base.specs.Goods.{cost, AtMost, zeros, box_size}
use Rattle.lot_base.specs.Box.{IsIn}
use Rattle.lot_base.specs.Demands.{IsAscending, IsDemand}
use Rattle.lot_base.specs.Economy.{surplus, demand}
use Rattle.lot_base.proofs.Demand.{IsIn-demand, demand-IsIn}
use Rattle.lot_base.proofs.Ascending.{IsDemand-demand}
use Rattle.rationale.specs.Observations.{Observation, AreObservations, Explains, IsRational}
use Rattle.rationale.specs.Links.{is_in, weight_at, weight, IsLink, IsChain, total, IsNegativeCycle, AreLeastWeights}
use Rattle.rationale.specs.declared.links.Link.{Link}
use Rattle.rationale.specs.Places.{is_edge, edge_weight, AreBoxed}
use Rattle.rationale.proofs.Bundles.{is_in-IsIn, IsIn-is_in, all_at, all_from, link-within, chain_potential, graph, least_weights, cycle_links}
use Rattle.rationale.proofs.Runs.{least_or_cycle}

-- ascending lists of the same bundles are equal
behind : (x : List ℕ) (xs : List (List ℕ)) → IsAscending (x ∷ xs) → IsAscending xs
behind x [] up = tt
behind x (y ∷ xs) up = up.1

first : (x : List ℕ) (xs : List (List ℕ)) → IsAscending (x ∷ xs) → (z : List ℕ) → IsIn z xs → slice_cmp nat_cmp x z ≡ Less
first x [] up z m = absurd m
first x (y ∷ xs) up z (inl e) = ap (slice_cmp nat_cmp x) e ∙ up.0
first x (y ∷ xs) up z (inr m) = nat_list_cmp_total.trans x y z up.0 (first y xs up.1 z m)

not_both : (x y : List ℕ) → slice_cmp nat_cmp x y ≡ Less → slice_cmp nat_cmp y x ≡ Less → ⊥
not_both x y less more = let i = nat_list_cmp_total.antisymm x y in let j : ordering_reverse (slice_cmp nat_cmp y x) ≡ ordering_reverse Less = ap ordering_reverse more in cc

same_first : (x y : List ℕ) (xs ys : List (List ℕ)) → IsAscending (x ∷ xs) → IsAscending (y ∷ ys) → IsIn x (y ∷ ys) → IsIn y (x ∷ xs) → x ≡ y
same_first x y xs ys up more (inl e) n = e
same_first x y xs ys up more (inr m) (inl e) = sym e
same_first x y xs ys up more (inr m) (inr n) = absurd (not_both x y (first x xs up y n) (first y ys more x m))

rest_in : (x y : List ℕ) (xs ys : List (List ℕ)) → IsAscending (x ∷ xs) → x ≡ y → (z : List ℕ) → IsIn z xs → IsIn z (y ∷ ys) → IsIn z ys
rest_in x y xs ys up same z m (inr n) = n
rest_in x y xs ys up same z m (inl e) =
    let less = first x xs up z m in
    let back : slice_cmp nat_cmp x x ≡ Less = ap (slice_cmp nat_cmp x) (same ∙ sym e) ∙ less in
    absurd (not_both x x back back)

same_lists : (xs ys : List (List ℕ)) → IsAscending xs → IsAscending ys → ((z : List ℕ) → IsIn z xs → IsIn z ys) → ((z : List ℕ) → IsIn z ys → IsIn z xs) → xs ≡ ys
same_lists [] [] up more to from = refl
same_lists [] (y ∷ ys) up more to from = absurd (from y (inl refl))
same_lists (x ∷ xs) [] up more to from = absurd (to x (inl refl))
same_lists (x ∷ xs) (y ∷ ys) up more to from =
    let p = same_first x y xs ys up more (to x (inl refl)) (from y (inl refl)) in
    let q = same_lists xs ys (behind x xs up) (behind y ys more)
    (λ z m. rest_in x y xs ys up p z m (to z (inr m)))
    (λ z m. rest_in y x ys xs more (sym p) z m (from z (inr m))) in
    λ i. p i ∷ q i

-- the weight of a link by whether its end is demanded
pub weight_in : (o : Observation) (x y : List ℕ) → is_in y o.bundles ≡ true → weight_at (Some o) x y ≡ pos (cost o.prices y) -ℤ pos (cost o.prices x)
weight_in o x y h = let i = cond-true (is_in y o.bundles) (pos 0) (pos 1) h in omega (arith, ints)

pub weight_out : (o : Observation) (x y : List ℕ) → is_in y o.bundles ≡ false → weight_at (Some o) x y ≡ (pos (cost o.prices y) -ℤ pos (cost o.prices x)) -ℤ pos 1
weight_out o x y h = let i = cond-false (is_in y o.bundles) (pos 0) (pos 1) h in omega (arith, ints)

-- a bundle that is reported is worth as much more than the others as its links say
abbrev pub Bounds : List ℕ → (List ℕ → ℤ) → Observation → Type 0
Bounds supply u o = (x y : List ℕ) → IsIn x o.bundles → AtMost y supply → (x ≡ y → ⊥) → u y ≤ℤ (u x +ℤ weight_at (Some o) x y)

not_worse : (supply : List ℕ) (u : List ℕ → ℤ) (o : Observation) → Bounds supply u o → (x y : List ℕ) → IsIn x o.bundles → AtMost y supply →
    surplus u o.prices y ≤ℤ surplus u o.prices x
not_worse supply u o bounds x y m in_box = elim (cases_Bool (is_in y (x ∷ []))) [
  | inl same ↦ (let e = only (is_in-IsIn y (x ∷ []) same) in let i = ap (surplus u o.prices) e in omega (arith, ints))
  | inr other ↦
      (let i = bounds x y m in_box (λ e. (let k = IsIn-is_in y (x ∷ []) (inl (sym e)) in cc)) in
      elim (cases_Bool (is_in y o.bundles)) [
        | inl h ↦ (let j = weight_in o x y h in omega (arith, ints))
        | inr h ↦ (let j = weight_out o x y h in omega (arith, ints))
      ])
]
  where
    only : IsIn y (x ∷ []) → y ≡ x
    only (inl e) = e
    only (inr n) = absurd n

record Some_in (xs : List (List ℕ)) : Type 0 where
  bundle : List ℕ
  «in» : IsIn bundle xs

some_in : (xs : List (List ℕ)) → 1 ≤ length xs → Some_in xs
some_in [] h = absurd (omega arith)
some_in (x ∷ xs) h = record { bundle = x; «in» = inl refl }

within : (supply : List ℕ) (x : List ℕ) (xs : List (List ℕ)) → AllByRecursion (λ z. AtMost z supply) xs → IsIn x xs → AtMost x supply
within supply x [] all m = absurd m
within supply x (z ∷ xs) all (inl e) = subst (λ (b : List ℕ). AtMost b supply) (sym e) all.0
within supply x (z ∷ xs) all (inr m) = within supply x xs all.1 m

demanded-in : (supply : List ℕ) (u : List ℕ → ℤ) (o : Observation) → IsDemand supply o.bundles → Bounds supply u o → (y : List ℕ) → IsIn y (demand supply u o.prices) → IsIn y o.bundles
demanded-in supply u o d bounds y m = elim (cases_Bool (is_in y o.bundles)) [
  | inl h ↦ is_in-IsIn y o.bundles h
  | inr h ↦ absurd (
      let s = some_in o.bundles d.some in
      let x = s.bundle in
      let best = demand-IsIn supply u o.prices y m in
      let i = best.1 x (within supply x o.bundles d.in_box s.«in») in
      let k = bounds x y s.«in» best.0 (λ e. (let n = IsIn-is_in y o.bundles (subst (λ (z : List ℕ). IsIn z o.bundles) e s.«in») in cc)) in
      let j = weight_out o x y h in
      omega (arith, ints))
]

explains_one : (supply : List ℕ) (u : List ℕ → ℤ) (o : Observation) → IsDemand supply o.bundles → Bounds supply u o → demand supply u o.prices ≡ o.bundles
explains_one supply u o d bounds = same_lists (demand supply u o.prices) o.bundles (IsDemand-demand supply u o.prices).ascending d.ascending
    (λ y m. demanded-in supply u o d bounds y m)
    (λ x m. IsIn-demand supply u o.prices x (within supply x o.bundles d.in_box m, λ y in_box. not_worse supply u o bounds x y m in_box))

bounds-from_one : (supply : List ℕ) (u : List ℕ → ℤ) (o : Observation) → demand supply u o.prices ≡ o.bundles → Bounds supply u o
bounds-from_one supply u o e x y m in_box other =
    let best = demand-IsIn supply u o.prices x (subst (IsIn x) (sym e) m) in
    let i = best.1 y in_box in
    elim (cases_Bool (is_in y o.bundles)) [
      | inl h ↦ (let j = weight_in o x y h in omega (arith, ints))
      | inr h ↦ (let j = weight_out o x y h in by_lt_z (surplus u o.prices y) (surplus u o.prices x)
          (λ lt. omega (arith, ints))
          (λ le. absurd (
          let n = IsIn-demand supply u o.prices y (in_box, λ z small. (let a = best.1 z small in omega (arith, ints))) in
          let k = IsIn-is_in y o.bundles (subst (IsIn y) e n) in cc)))
    ]

-- a link's weight is that of its observation
weight-found : (os : List Observation) (l : Link) (o : Observation) → slice_get os (l.observation - 1) ≡ Some o → weight os l ≡ weight_at (Some o) l.x l.y
weight-found os l o is = ap (λ (f : Option Observation). weight_at f l.x l.y) is

pub explains-links : (supply : List ℕ) (u : List ℕ → ℤ) (os : List Observation) → Explains supply u os → (l : Link) → IsLink supply os l → u l.y ≤ℤ (u l.x +ℤ weight os l)
explains-links supply u os explains l link =
    let e = all_at (λ o. demand supply u o.prices ≡ o.bundles) os (l.observation - 1) link.seen explains link.found in
    let i = bounds-from_one supply u link.seen e l.x l.y link.demanded link.in_box link.other in
    let j = weight-found os l link.seen link.found in
    omega (arith, ints)

pub links-explain : (supply : List ℕ) (u : List ℕ → ℤ) (os : List Observation) → AreObservations supply os →
    ((l : Link) → IsLink supply os l → u l.y ≤ℤ (u l.x +ℤ weight os l)) → Explains supply u os
links-explain supply u os good each = all_from (λ o. demand supply u o.prices ≡ o.bundles) os (λ i o is.
    explains_one supply u o (all_at (λ q. IsDemand supply q.bundles) os i o good is) (λ x y m in_box other.
    (let l : Link = record { observation = i + 1; x = x; y = y } in
    let n : i + 1 - 1 ≡ i = omega arith in
    let found : slice_get os (i + 1 - 1) ≡ Some o = ap (slice_get os) n ∙ is in
    let h = each l (record { seen = o; numbered = omega arith; found = found; demanded = m; in_box = in_box; other = other }) in
    let j = weight-found os l o found in
    omega (arith, ints))))

-- a chain with one link more at its end
snoc : List Link → Link → List Link
snoc [] l = l ∷ []
snoc (k ∷ ks) l = k ∷ snoc ks l

chain-snoc : (supply : List ℕ) (os : List Observation) (a : List ℕ) (ks : List Link) (l : Link) → IsChain supply os a ks l.x → IsLink supply os l → IsChain supply os a (snoc ks l) l.y
unfolding snoc
chain-snoc supply os a [] l c link = (link, sym c, refl)
chain-snoc supply os a (k ∷ ks) l c link = (c.0, c.1, chain-snoc supply os k.y ks l c.2 link)

total-snoc : (os : List Observation) (ks : List Link) (l : Link) → total os (snoc ks l) ≡ total os ks +ℤ weight os l
unfolding snoc
total-snoc os [] l = omega (arith, ints)
total-snoc os (k ∷ ks) l = let i = total-snoc os ks l in omega (arith, ints)

pub boxed : (supply : List ℕ) (os : List Observation) → AreObservations supply os → AreBoxed supply os
boxed supply [] good = tt
boxed supply (o ∷ os) good = (good.0.in_box, boxed supply os good.1)

pub least-links : (supply : List ℕ) (os : List Observation) (m : List ℕ → ℤ) → AreBoxed supply os → AreLeastWeights supply os m →
    (l : Link) → IsLink supply os l → m l.y ≤ℤ (m l.x +ℤ weight os l)
least-links supply os m good least l link =
    let x = least l.x (link-within supply os l good link) in
    let i = (least l.y link.in_box).bound x.from (snoc x.links l) (chain-snoc supply os x.from x.links l x.chain link) in
    let j = total-snoc os x.links l in
    let k = x.reached in
    omega (arith, ints)

pub explained : (supply : List ℕ) (os : List Observation) (m : List ℕ → ℤ) → AreObservations supply os → AreLeastWeights supply os m → Explains supply (λ y. m y -ℤ m (zeros supply)) os
explained supply os m good least = links-explain supply (λ y. m y -ℤ m (zeros supply)) os good
    (λ l link. (let i = least-links supply os m (boxed supply os good) least l link in omega (arith, ints)))

pub either : (supply : List ℕ) (os : List Observation) → AreObservations supply os →
    ((m : List ℕ → ℤ) × AreLeastWeights supply os m) ⊎ ((links : List Link) × IsNegativeCycle supply os links × (length links ≤ box_size supply))
either supply os good = elim (least_or_cycle (is_edge supply os) (edge_weight supply os) (length os) (box_size supply) (graph supply os)) [
  | inl m ↦ inl (_, least_weights supply os (boxed supply os good) m.0 m.1)
  | inr n ↦ (let f = cycle_links supply os n in inr (f.links, f.cycle, f.few))
]

pub rational-no_cycle : (supply : List ℕ) (os : List Observation) → IsRational supply os → (links : List Link) → IsNegativeCycle supply os links → ⊥
rational-no_cycle supply os r links n =
    let i = chain_potential supply os r.0 (λ l link. explains-links supply r.0 os r.2 l link) n.start links n.start n.closed in
    let j = n.negative in
    omega (arith, ints)

pub no_cycle-rational : (supply : List ℕ) (os : List Observation) → AreObservations supply os → ((links : List Link) → IsNegativeCycle supply os links → ⊥) → IsRational supply os
no_cycle-rational supply os good none = elim (either supply os good) [
  | inl m ↦ ((λ y. m.0 y -ℤ m.0 (zeros supply)), omega (arith, ints), explained supply os m.0 good m.1)
  | inr n ↦ absurd (none n.0 n.1)
]
