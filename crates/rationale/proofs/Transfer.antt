-- The ends of lines bind what all observations bind: their least weights and their cycles are those of all.
use Rattle.std.proofs.Common.{◌≡◌, ◌<◌, ◌+◌, ◌-◌, ℕ, suc, zero, List, [], ◌∷◌, ◌++◌, length, Some, arith, ap, refl, inl, inr, sym, subst, ◌∙◌, length-append}
use Rattle.std.specs.Prelude.{◌⊎◌, Option, slice_get, ℤ, pos, ◌+ℤ◌, ◌≤ℤ◌}
use Rattle.std.specs.List.{AllByRecursion}
use Rattle.std.proofs.lemmas.Int.{ints}
use Rattle.std.proofs.lemmas.Bool.{cases_lt, cases_Bool, cond-true, cond-false}
use Rattle.std.proofs.lemmas.Option.{slice_get_within}
use Rattle.lot_base.specs.Goods.{AtMost}
use Rattle.lot_base.specs.Box.{IsIn}
use Rattle.lot_base.specs.Demands.{IsDemand}
use Rattle.rationale.specs.Observations.{Observation, AreObservations}
use Rattle.rationale.specs.Links.{weight_at, weight, total, IsLink, IsChain, IsNegativeCycle, AreLeastWeights}
use Rattle.rationale.specs.Lines.{after, along}
use Rattle.rationale.specs.Kept.{lines_by, all_by, seen_at, thin_at, is_end, thinned, observations_of, IsLine, IsStretch}
use Rattle.rationale.specs.Places.{AreBoxed}
use Rattle.rationale.specs.declared.links.Link.{Link}
use Rattle.rationale.specs.declared.lines.Line.{Line}
use Rattle.rationale.specs.declared.stretches.Stretch.{Stretch}
use Rattle.rationale.proofs.Growing.{along-long, all_append, all_first, all_second}
use Rattle.rationale.proofs.Courses.{get_first, get_second}
use Rattle.rationale.proofs.Thinning.{get_along, thin_first, thin_last}
use Rattle.rationale.proofs.Bundles.{all_at, all_from, link-within, chain_potential}
use Rattle.rationale.proofs.Explained.{Bounds, boxed, least-links}
use Rattle.rationale.proofs.Between.{between}

-- as many observations either way
long_lines : (f g : Line → ℕ → Observation) (lines : List Line) → length (lines_by f lines) ≡ length (lines_by g lines)
long_lines f g [] = refl
long_lines f g (line ∷ lines) =
    let a = length-append (along (f line) line.count) (lines_by f lines) in
    let b = length-append (along (g line) line.count) (lines_by g lines) in
    let c = along-long (f line) line.count in
    let d = along-long (g line) line.count in
    let i = long_lines f g lines in
    omega arith

pub long_all : (f g : List (List ℕ) → Line → ℕ → Observation) (stretches : List Stretch) → length (all_by f stretches) ≡ length (all_by g stretches)
long_all f g [] = refl
long_all f g (s ∷ stretches) =
    let a = length-append (lines_by (f s.demand) s.lines.items) (all_by f stretches) in
    let b = length-append (lines_by (g s.demand) s.lines.items) (all_by g stretches) in
    let c = long_lines (f s.demand) (g s.demand) s.lines.items in
    let i = long_all f g stretches in
    omega arith

-- each observation is kept as it is, or without bundles
abbrev Thins : List Observation → List Observation → Type 0
Thins os thin = (t : ℕ) (o : Observation) → slice_get thin t ≡ Some o → (o.bundles ≡ []) ⊎ (slice_get os t ≡ Some o)

thins_append : (xs ys us vs : List Observation) → length xs ≡ length us → Thins xs us → Thins ys vs → Thins (xs ++ ys) (us ++ vs)
thins_append xs ys us vs long first second t o got = elim (cases_lt t (length us)) [
  | inl before ↦ elim (first t o (sym (get_first us vs t before) ∙ got)) [
    | inl none ↦ inl none
    | inr same ↦ inr (get_first xs ys t (omega arith) ∙ same)
  ]
  | inr at ↦
      (let e : length us + (t - length us) ≡ t = omega arith in
      let f : t ≡ length xs + (t - length us) = omega arith in
      elim (second (t - length us) o (sym (get_second us vs (t - length us)) ∙ ap (slice_get (us ++ vs)) e ∙ got)) [
        | inl none ↦ inl none
        | inr same ↦ inr (ap (slice_get (xs ++ ys)) f ∙ get_second xs ys (t - length us) ∙ same)
      ])
]

thin_either : (bundles : List (List ℕ)) (line : Line) (t : ℕ) → ((thin_at bundles line t).bundles ≡ []) ⊎ (thin_at bundles line t ≡ seen_at bundles line t)
thin_either bundles line t = elim (cases_Bool (is_end line t)) [
  | inl kept ↦ inr (let F : List (List ℕ) → Observation = λ b. record { prices = after line.first line.step t; bundles = b } in ap F (cond-true (is_end line t) bundles [] kept))
  | inr blank ↦ inl (cond-false (is_end line t) bundles [] blank)
]

thins_line : (bundles : List (List ℕ)) (line : Line) → Thins (along (seen_at bundles line) line.count) (along (thin_at bundles line) line.count)
thins_line bundles line t o got =
    let n = line.count in
    let inside : t < n = (let l = slice_get_within (along (thin_at bundles line) n) t o got in let k = along-long (thin_at bundles line) n in omega arith) in
    let e = sym (get_along (thin_at bundles line) n t inside) ∙ got in
    let same : thin_at bundles line t ≡ o = cc in
    elim (thin_either bundles line t) [
      | inl none ↦ inl (ap (λ (z : Observation). z.bundles) (sym same) ∙ none)
      | inr kept ↦ inr (get_along (seen_at bundles line) n t inside ∙ ap (λ (z : Observation). Some z) (sym kept ∙ same))
    ]

thins_lines : (bundles : List (List ℕ)) (lines : List Line) → Thins (lines_by (seen_at bundles) lines) (lines_by (thin_at bundles) lines)
thins_lines bundles [] t o got = absurd (cc)
thins_lines bundles (line ∷ lines) t o got =
    thins_append (along (seen_at bundles line) line.count) (lines_by (seen_at bundles) lines) (along (thin_at bundles line) line.count) (lines_by (thin_at bundles) lines)
    (along-long (seen_at bundles line) line.count ∙ sym (along-long (thin_at bundles line) line.count)) (thins_line bundles line) (thins_lines bundles lines) t o got

pub thins_all : (stretches : List Stretch) → Thins (observations_of stretches) (thinned stretches)
thins_all [] t o got = absurd (cc)
thins_all (s ∷ stretches) t o got =
    thins_append (lines_by (seen_at s.demand) s.lines.items) (observations_of stretches) (lines_by (thin_at s.demand) s.lines.items) (thinned stretches)
    (long_lines (seen_at s.demand) (thin_at s.demand) s.lines.items) (thins_lines s.demand s.lines.items) (thins_all stretches) t o got

-- a link of what is kept is one of all, and weighs the same
found_in : (os thin : List Observation) → Thins os thin → (supply : List ℕ) (l : Link) (link : IsLink supply thin l) → slice_get os (l.observation - 1) ≡ Some link.seen
found_in os thin thins supply l link = elim (thins (l.observation - 1) link.seen link.found) [
  | inl none ↦ absurd (subst (IsIn l.x) none link.demanded)
  | inr same ↦ same
]

link_in : (os thin : List Observation) → Thins os thin → (supply : List ℕ) (l : Link) → IsLink supply thin l → IsLink supply os l
link_in os thin thins supply l link = record {
  seen = link.seen;
  numbered = link.numbered;
  found = found_in os thin thins supply l link;
  demanded = link.demanded;
  in_box = link.in_box;
  other = link.other;
}

weight_in_all : (os thin : List Observation) → Thins os thin → (supply : List ℕ) (l : Link) → IsLink supply thin l → weight thin l ≡ weight os l
weight_in_all os thin thins supply l link = ap (λ (f : Option Observation). weight_at f l.x l.y) (link.found ∙ sym (found_in os thin thins supply l link))

pub chain_in : (os thin : List Observation) → Thins os thin → (supply : List ℕ) (a : List ℕ) (links : List Link) (b : List ℕ) → IsChain supply thin a links b → IsChain supply os a links b
chain_in os thin thins supply a [] b c = c
chain_in os thin thins supply a (l ∷ links) b c = (link_in os thin thins supply l c.0, c.1, chain_in os thin thins supply l.y links b c.2)

pub total_in : (os thin : List Observation) → Thins os thin → (supply : List ℕ) (a : List ℕ) (links : List Link) (b : List ℕ) → IsChain supply thin a links b → total thin links ≡ total os links
total_in os thin thins supply a [] b c = refl
total_in os thin thins supply a (l ∷ links) b c =
    let i = weight_in_all os thin thins supply l c.0 in
    let j = total_in os thin thins supply l.y links b c.2 in
    λ k. i k +ℤ j k

pub cycle_in : (os thin : List Observation) → Thins os thin → (supply : List ℕ) (links : List Link) → IsNegativeCycle supply thin links → IsNegativeCycle supply os links
cycle_in os thin thins supply links n = record {
  start = n.start;
  closed = chain_in os thin thins supply n.start links n.start n.closed;
  negative = subst (λ (z : ℤ). (z +ℤ pos 1) ≤ℤ pos 0) (total_in os thin thins supply n.start links n.start n.closed) n.negative;
}

-- what the ends of a line bound, all of it bound
all_along : (P : Observation → Type 0) (f : ℕ → Observation) (n : ℕ) → ((t : ℕ) → t < n → P (f t)) → AllByRecursion P (along f n)
all_along P f zero each = tt
all_along P f (suc n) each = all_append P (along f n) (f n ∷ []) (all_along P f n (λ t inside. each t (omega arith))) (each n (omega arith), tt)

along_at : (P : Observation → Type 0) (f : ℕ → Observation) (n t : ℕ) → AllByRecursion P (along f n) → t < n → P (f t)
along_at P f n t all inside = all_at P (along f n) t (f t) all (get_along f n t inside)

line_bound : (supply : List ℕ) (u : List ℕ → ℤ) (bundles : List (List ℕ)) (line : Line) → IsLine supply line → AllByRecursion (Bounds supply u) (along (thin_at bundles line) line.count) →
    AllByRecursion (Bounds supply u) (along (seen_at bundles line) line.count)
line_bound supply u bundles line is all = all_along (Bounds supply u) (seen_at bundles line) line.count (λ t inside. (
    let some = is.some in
    let n = line.count - 1 in
    let first = subst (Bounds supply u) (thin_first supply bundles line is) (along_at (Bounds supply u) (thin_at bundles line) line.count 0 all (omega arith)) in
    let last = subst (Bounds supply u) (thin_last supply bundles line n is (omega arith)) (along_at (Bounds supply u) (thin_at bundles line) line.count n all (omega arith)) in
    let F : List ℕ → Observation = λ p. record { prices = p; bundles = bundles } in
    let end = subst (Bounds supply u) (ap F is.last_is) last in
    λ x y m in_box other. between u line.first line.step bundles x y t n (omega arith) (first x y m in_box other) (end x y m in_box other)))

lines_bound : (supply : List ℕ) (u : List ℕ → ℤ) (bundles : List (List ℕ)) (lines : List Line) → AllByRecursion (IsLine supply) lines →
    AllByRecursion (Bounds supply u) (lines_by (thin_at bundles) lines) → AllByRecursion (Bounds supply u) (lines_by (seen_at bundles) lines)
lines_bound supply u bundles [] are all = tt
lines_bound supply u bundles (line ∷ lines) are all =
    let a = along (thin_at bundles line) line.count in
    let b = lines_by (thin_at bundles) lines in
    all_append (Bounds supply u) (along (seen_at bundles line) line.count) (lines_by (seen_at bundles) lines)
    (line_bound supply u bundles line are.0 (all_first (Bounds supply u) a b all)) (lines_bound supply u bundles lines are.1 (all_second (Bounds supply u) a b all))

pub all_bound : (supply : List ℕ) (u : List ℕ → ℤ) (stretches : List Stretch) → AllByRecursion (IsStretch supply) stretches →
    AllByRecursion (Bounds supply u) (thinned stretches) → AllByRecursion (Bounds supply u) (observations_of stretches)
all_bound supply u [] are all = tt
all_bound supply u (s ∷ stretches) are all =
    let a = lines_by (thin_at s.demand) s.lines.items in
    let b = thinned stretches in
    all_append (Bounds supply u) (lines_by (seen_at s.demand) s.lines.items) (observations_of stretches)
    (lines_bound supply u s.demand s.lines.items are.0.lines_are (all_first (Bounds supply u) a b all)) (all_bound supply u stretches are.1 (all_second (Bounds supply u) a b all))

bounds_of : (supply : List ℕ) (u : List ℕ → ℤ) (os : List Observation) → ((l : Link) → IsLink supply os l → u l.y ≤ℤ (u l.x +ℤ weight os l)) → AllByRecursion (Bounds supply u) os
bounds_of supply u os each = all_from (Bounds supply u) os (λ i o is x y m in_box other. (
    let l : Link = record { observation = i + 1; x = x; y = y } in
    let n : i + 1 - 1 ≡ i = omega arith in
    let found : slice_get os (i + 1 - 1) ≡ Some o = ap (slice_get os) n ∙ is in
    let h = each l (record { seen = o; numbered = omega arith; found = found; demanded = m; in_box = in_box; other = other }) in
    let j : weight os l ≡ weight_at (Some o) x y = ap (λ (f : Option Observation). weight_at f x y) found in
    omega (arith, ints)))

links_of_bounds : (supply : List ℕ) (u : List ℕ → ℤ) (os : List Observation) → AllByRecursion (Bounds supply u) os → (l : Link) → IsLink supply os l → u l.y ≤ℤ (u l.x +ℤ weight os l)
links_of_bounds supply u os all l link =
    let h = all_at (Bounds supply u) os (l.observation - 1) link.seen all link.found l.x l.y link.demanded link.in_box link.other in
    let j : weight os l ≡ weight_at (Some link.seen) l.x l.y = ap (λ (f : Option Observation). weight_at f l.x l.y) link.found in
    omega (arith, ints)

chain_start : (supply : List ℕ) (os : List Observation) → AreBoxed supply os → (a : List ℕ) (links : List Link) (b : List ℕ) → IsChain supply os a links b → AtMost b supply → AtMost a supply
chain_start supply os good a [] b c in_box = subst (λ (z : List ℕ). AtMost z supply) (sym c) in_box
chain_start supply os good a (l ∷ links) b c in_box = subst (λ (z : List ℕ). AtMost z supply) c.1 (link-within supply os l good c.0)

pub observed : (supply : List ℕ) (stretches : List Stretch) → AllByRecursion (IsStretch supply) stretches → AreObservations supply (observations_of stretches)
observed supply [] are = tt
observed supply (s ∷ stretches) are = all_append (λ o. IsDemand supply o.bundles) (lines_by (seen_at s.demand) s.lines.items) (observations_of stretches) (lines s.lines.items) (observed supply stretches are.1)
  where
    lines : (xs : List Line) → AreObservations supply (lines_by (seen_at s.demand) xs)
    lines [] = tt
    lines (line ∷ xs) = all_append (λ o. IsDemand supply o.bundles) (along (seen_at s.demand line) line.count) (lines_by (seen_at s.demand) xs)
        (all_along (λ o. IsDemand supply o.bundles) (seen_at s.demand line) line.count (λ t inside. are.0.reported)) (lines xs)

pub least_in : (supply : List ℕ) (stretches : List Stretch) (m : List ℕ → ℤ) → AllByRecursion (IsStretch supply) stretches → AreBoxed supply (thinned stretches) →
    AreLeastWeights supply (thinned stretches) m → AreLeastWeights supply (observations_of stretches) m
least_in supply stretches m are boxed_thin least y in_box =
    let os = observations_of stretches in
    let thin = thinned stretches in
    let l = least y in_box in
    let good = boxed supply os (observed supply stretches are) in
    let potential = links_of_bounds supply m os (all_bound supply m stretches are (bounds_of supply m thin (least-links supply thin m boxed_thin least))) in
    record {
      from = l.from;
      links = l.links;
      chain = chain_in os thin (thins_all stretches) supply l.from l.links y l.chain;
      reached = sym (total_in os thin (thins_all stretches) supply l.from l.links y l.chain) ∙ l.reached;
      bound = λ a others c.
          (let i = chain_potential supply os m potential a others y c in
          let j = (least a (chain_start supply os good a others y c in_box)).bound a [] refl in
          omega (arith, ints));
    }
