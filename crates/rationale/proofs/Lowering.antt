-- The steps of the labels are a lowering along the links of an observation.
use Rattle.std.proofs.Common.{◌≡◌, ◌≤◌, ◌<◌, ◌+◌, ◌-◌, ◌^◌, ℕ, suc, zero, List, [], ◌∷◌, length, slice_index, Some, None, arith, ap, refl, inl, inr, sym, subst, ◌∙◌}
use Rattle.std.specs.Prelude.{◌⊎◌, Bool, true, false, Option, map, slice_get, slice_index_or, pos, ◌+ℤ◌, ◌-ℤ◌, ◌≤ℤ◌, if◌then◌else◌}
use Rattle.std.proofs.lemmas.Int.{ints}
use Rattle.std.proofs.lemmas.Bool.{cases_lt, cases_Bool, cond-true, cond-false}
use Rattle.lot_base.specs.Goods.{box_size}
use Rattle.lot_base.specs.Box.{IsIn, bundle_at, index_of}
use Rattle.lot_base.proofs.Index.{index_of-bundle_at}
use Rattle.rationale.specs.Edges.{Edge}
use Rattle.rationale.specs.Climbs.{IsKept, IsLowered, Lowers}
use Rattle.rationale.specs.Observations.{Observation}
use Rattle.rationale.specs.Links.{is_in, weight_at}
use Rattle.rationale.specs.Steps.{IsStep, AreSteps}
use Rattle.rationale.specs.Shown.{label_of, edge_to, parent_of, IsShown}
use Rattle.rationale.specs.declared.labels.Parent.{Parent}
use Rattle.rationale.specs.Places.{is_edge, edge_weight}
use Rattle.rationale.proofs.Bundles.{edge_facts_at, edge_there, IsIn-is_in, is_in-IsIn}

pub get-any : {A : Type 0} (xs : List A) (i : ℕ) (d e : A) → i < length xs → slice_index_or xs i d ≡ slice_index_or xs i e
get-any [] i d e h = absurd (omega arith)
get-any (x ∷ xs) zero d e h = refl
get-any (x ∷ xs) (suc i) d e h = get-any xs i d e (omega arith)

pub get-past : {A : Type 0} (xs : List A) (i : ℕ) (d : A) → length xs ≤ i → slice_index_or xs i d ≡ d
get-past [] i d h = refl
get-past (x ∷ xs) zero d h = absurd (omega arith)
get-past (x ∷ xs) (suc i) d h = get-past xs i d (omega arith)

-- the label of a place of the box
pub label-at : (labels : List ℕ) (y : ℕ) → y < length labels → label_of labels y ≡ pos (slice_index labels y) -ℤ pos (2 ^ 60)
label-at labels y h = ap (λ (n : ℕ). pos n -ℤ pos (2 ^ 60)) (get-any labels y (2 ^ 60) 0 h)

pub in_map : (f : ℕ → List ℕ) (places : List ℕ) (j : ℕ) → j < length places → IsIn (f (slice_index places j)) (map f places)
in_map f [] j h = absurd (omega arith)
in_map f (p ∷ places) zero h = inl refl
in_map f (p ∷ places) (suc j) h = inr (in_map f places j (omega arith))

pub record At (f : ℕ → List ℕ) (places : List ℕ) (x : List ℕ) : Type 0 where
  pub which : ℕ
  pub inside : which < length places
  pub is : x ≡ f (slice_index places which)

pub map_in : (f : ℕ → List ℕ) (places : List ℕ) (x : List ℕ) → IsIn x (map f places) → At f places x
map_in f [] x h = absurd h
map_in f (p ∷ places) x (inl e) = record { which = 0; inside = omega arith; is = e }
map_in f (p ∷ places) x (inr m) = let t = map_in f places x m in let i = t.inside in record { which = t.which + 1; inside = omega arith; is = t.is ∙ (let e : suc t.which ≡ t.which + 1 = omega arith in ap (λ (k : ℕ). f (slice_index (p ∷ places) k)) e) }

-- what an observation and its labels are before it is followed
pub record IsBefore (supply : List ℕ) (os : List Observation) (o : Observation) (number : ℕ) (costs gaps places labels : List ℕ) (excess which : ℕ) : Type 0 where
  pub found : slice_get os number ≡ Some o
  pub shown : IsShown supply o costs gaps places
  pub long : length labels ≡ box_size supply
  pub inside : which < length places
  pub reached : excess + slice_index costs (slice_index places which) ≡ slice_index labels (slice_index places which)
  pub least : (j : ℕ) → j < length places → excess + slice_index costs (slice_index places j) ≤ slice_index labels (slice_index places j)
  pub positive : (i : ℕ) → i < box_size supply → slice_index gaps i ≤ excess + slice_index costs i

gap-in : (b : Bool) (n : ℕ) → n ≡ (if b then 0 else 1) → b ≡ true → n ≡ 0
gap-in b n e h = e ∙ cond-true {A = ℕ} b 0 1 h

gap-out : (b : Bool) (n : ℕ) → n ≡ (if b then 0 else 1) → b ≡ false → n ≡ 1
gap-out b n e h = e ∙ cond-false {A = ℕ} b 0 1 h

demanded : (supply : List ℕ) (o : Observation) (costs gaps places : List ℕ) → IsShown supply o costs gaps places → (j : ℕ) → j < length places → is_in (bundle_at supply (slice_index places j)) o.bundles ≡ true
demanded supply o costs gaps places s j h =
    IsIn-is_in (bundle_at supply (slice_index places j)) o.bundles (subst (IsIn (bundle_at supply (slice_index places j))) (sym s.bundles_are) (in_map (bundle_at supply) places j h))

weight_of_edge : (supply : List ℕ) (os : List Observation) (o : Observation) (costs gaps places : List ℕ) (number x y : ℕ) → slice_get os number ≡ Some o → IsShown supply o costs gaps places →
    x < box_size supply → y < box_size supply →
    edge_weight supply os (record { observation = number; x = x; y = y }) ≡ (pos (slice_index costs y) -ℤ pos (slice_index costs x)) -ℤ pos (slice_index gaps y)
weight_of_edge supply os o costs gaps places number x y found s small_x small_y =
    let n : number + 1 - 1 ≡ number = omega arith in
    let e : edge_weight supply os (record { observation = number; x = x; y = y }) ≡ weight_at (Some o) (bundle_at supply x) (bundle_at supply y) =
    ap (λ (f : Option Observation). weight_at f (bundle_at supply x) (bundle_at supply y)) (ap (slice_get os) n ∙ found) in
    let a = s.costs_are x small_x in
    let b = s.costs_are y small_y in
    let g = s.gaps_are y small_y in
    elim (cases_Bool (is_in (bundle_at supply y) o.bundles)) [
      | inl h ↦ (let i = cond-true (is_in (bundle_at supply y) o.bundles) (pos 0) (pos 1) h in let j = gap-in (is_in (bundle_at supply y) o.bundles) (slice_index gaps y) g h in omega (arith, ints))
      | inr h ↦ (let i = cond-false (is_in (bundle_at supply y) o.bundles) (pos 0) (pos 1) h in let j = gap-out (is_in (bundle_at supply y) o.bundles) (slice_index gaps y) g h in omega (arith, ints))
    ]

start_kept : (supply : List ℕ) (os : List Observation) (o : Observation) (number : ℕ) (costs gaps places labels : List ℕ) (excess which : ℕ) →
    IsBefore supply os o number costs gaps places labels excess which →
    slice_index labels (slice_index places which) ≤ excess + slice_index costs (slice_index places which) - slice_index gaps (slice_index places which)
start_kept supply os o number costs gaps places labels excess which b =
    let x = slice_index places which in
    let g = b.shown.gaps_are x (b.shown.inside which b.inside) in
    let j = gap-in (is_in (bundle_at supply x) o.bundles) (slice_index gaps x) g (demanded supply o costs gaps places b.shown which b.inside) in
    let r = b.reached in
    omega arith

one : (supply : List ℕ) (os : List Observation) (o : Observation) (number : ℕ) (costs gaps places labels : List ℕ) (excess which : ℕ) (parents : List (Option Parent)) (labels' : List ℕ) (parents' : List (Option Parent)) →
    IsBefore supply os o number costs gaps places labels excess which → length labels' ≡ length labels → length parents ≡ length labels → length parents' ≡ length labels →
    (y : ℕ) → y < length labels →
    IsStep (excess + slice_index costs y - slice_index gaps y) (record { observation = number; x = slice_index places which }) (slice_index labels y) (slice_index_or parents y None) (slice_index labels' y) (slice_index_or parents' y None) →
    IsKept (label_of labels) (parent_of parents) (label_of labels') (parent_of parents') y
    ⊎ IsLowered (is_edge supply os) (edge_weight supply os) (label_of labels) (label_of labels') (parent_of parents') (slice_index places which) y
one supply os o number costs gaps places labels excess which parents labels' parents' b long p_long p_long' y inside (inr kept) =
    inl (record {
      label = label-at labels' y (omega arith) ∙ ap (λ (n : ℕ). pos n -ℤ pos (2 ^ 60)) kept.1 ∙ sym (label-at labels y inside);
      parent = ap (λ (p : Option Parent). edge_to p y) kept.2;
    })
one supply os o number costs gaps places labels excess which parents labels' parents' b long p_long p_long' y inside (inl low) =
    let x = slice_index places which in
    let small_x = b.shown.inside which b.inside in
    let size = b.long in
    let small_y : y < box_size supply = omega arith in
    let apart : x ≡ y → ⊥ = λ same. (let k = start_kept supply os o number costs gaps places labels excess which b in
    let P : ℕ → Type 0 = λ z. slice_index labels z ≤ excess + slice_index costs z - slice_index gaps z in
    let h = subst P same k in let l = low.0 in omega arith) in
    let edge : Edge = record { observation = number; x = x; y = y } in
    let w = weight_of_edge supply os o costs gaps places number x y b.found b.shown small_x small_y in
    let a = label-at labels x (omega arith) in
    let c = label-at labels' y (omega arith) in
    let d = label-at labels y inside in
    let r = b.reached in
    let g = b.positive y small_y in
    let l = low.0 in
    let m = low.1 in
    inr (record {
      edge = edge;
      there = edge_there supply os o edge b.found small_x small_y apart (demanded supply o costs gaps places b.shown which b.inside);
      from = refl;
      ends = refl;
      parent = ap (λ (p : Option Parent). edge_to p y) low.2;
      label = omega (arith, ints);
      falls = omega (arith, ints);
    })

pub steps-lower : (supply : List ℕ) (os : List Observation) (o : Observation) (number : ℕ) (costs gaps places labels : List ℕ) (excess which : ℕ) (parents : List (Option Parent)) (labels' : List ℕ) (parents' : List (Option Parent)) →
    IsBefore supply os o number costs gaps places labels excess which → length labels' ≡ length labels → length parents ≡ length labels → length parents' ≡ length labels →
    AreSteps excess costs gaps (record { observation = number; x = slice_index places which }) labels parents labels' parents' (length labels) →
    Lowers (is_edge supply os) (edge_weight supply os) (label_of labels) (parent_of parents) (label_of labels') (parent_of parents') (slice_index places which)
steps-lower supply os o number costs gaps places labels excess which parents labels' parents' b long p_long p_long' steps = record {
  each = λ y. elim (cases_lt y (length labels)) [
    | inl inside ↦ one supply os o number costs gaps places labels excess which parents labels' parents' b long p_long p_long' y inside (steps y inside)
    | inr past ↦ inl (record {
      label = ap (λ (n : ℕ). pos n -ℤ pos (2 ^ 60)) (get-past labels' y (2 ^ 60) (omega arith) ∙ sym (get-past labels y (2 ^ 60) past));
      parent = ap (λ (p : Option Parent). edge_to p y) (get-past parents' y None (omega arith) ∙ sym (get-past parents y None (omega arith)));
    })
  ];
  source = source;
}
  where
    x : ℕ
    x = slice_index places which

    inside : x < length labels
    inside = (let i = b.shown.inside which b.inside in let j = b.long in omega arith)

    source : IsKept (label_of labels) (parent_of parents) (label_of labels') (parent_of parents') x
    source = elim (steps x inside) [
      | inl low ↦ absurd (let k = start_kept supply os o number costs gaps places labels excess which b in let l = low.0 in omega arith)
      | inr kept ↦ record {
        label = label-at labels' x (let i = inside in omega arith) ∙ ap (λ (n : ℕ). pos n -ℤ pos (2 ^ 60)) kept.1 ∙ sym (label-at labels x inside);
        parent = ap (λ (p : Option Parent). edge_to p x) kept.2;
      }
    ]

-- after it each link of the observation has been followed
pub steps-followed : (supply : List ℕ) (os : List Observation) (o : Observation) (number : ℕ) (costs gaps places labels : List ℕ) (excess which : ℕ) (new : Parent) (parents : List (Option Parent)) (labels' : List ℕ) (parents' : List (Option Parent)) →
    IsBefore supply os o number costs gaps places labels excess which → length labels' ≡ length labels →
    AreSteps excess costs gaps new labels parents labels' parents' (length labels) →
    (e : Edge) → is_edge supply os e ≡ true → e.observation ≡ number → label_of labels' e.y ≤ℤ (label_of labels e.x +ℤ edge_weight supply os e)
steps-followed supply os o number costs gaps places labels excess which new parents labels' parents' b long steps e there same =
    let f = edge_facts_at supply os e there in
    let is_o : f.seen ≡ o = (let p = f.is in let q : slice_get os e.observation ≡ Some o = ap (slice_get os) same ∙ b.found in cc) in
    let m = is_in-IsIn (bundle_at supply e.x) o.bundles (ap (λ (z : Observation). is_in (bundle_at supply e.x) z.bundles) (sym is_o) ∙ f.demanded) in
    let t = map_in (bundle_at supply) places (bundle_at supply e.x) (subst (IsIn (bundle_at supply e.x)) b.shown.bundles_are m) in
    let place = slice_index places t.which in
    let x_is : e.x ≡ place = sym (index_of-bundle_at supply e.x f.from) ∙ ap (index_of supply) t.is ∙ index_of-bundle_at supply place (b.shown.inside t.which t.inside) in
    let P : ℕ → Type 0 = λ z. excess + slice_index costs z ≤ slice_index labels z in
    let low : P e.x = subst P (sym x_is) (b.least t.which t.inside) in
    let size = b.long in
    let from = f.from in
    let to = f.to in
    let w = ap (edge_weight supply os) (let F : ℕ → Edge = λ i. record { observation = i; x = e.x; y = e.y } in ap F same) ∙ weight_of_edge supply os o costs gaps places number e.x e.y b.found b.shown f.from f.to in
    let a = label-at labels e.x (omega arith) in
    let c = label-at labels' e.y (omega arith) in
    let g = b.positive e.y f.to in
    elim (steps e.y (omega arith)) [
      | inl s ↦ (let i = s.0 in let j = s.1 in omega (arith, ints))
      | inr s ↦ (let i = s.0 in let j = s.1 in omega (arith, ints))
    ]
