-- The start of passes, and their end.
use Rattle.std.proofs.Common.{◌≡◌, ◌≤◌, ◌<◌, ◌+◌, ◌-◌, ◌*◌, ◌^◌, ℕ, suc, zero, List, [], ◌∷◌, length, slice_index, Some, None, arith, ap, refl, inl, inr, sym, subst}
use Rattle.std.specs.Prelude.{Bool, true, false, if◌then◌else◌, Option, slice_get, slice_index_or, IfSome, pos}
use Rattle.std.proofs.lemmas.Int.{ints}
use Rattle.std.proofs.lemmas.Bool.{cases_lt}
use Rattle.std.proofs.Math.Nat.{mul-le-mul}
use Rattle.std.specs.List.{AllByRecursion}
use Rattle.lot_base.specs.Goods.{box_size, AtMost}
use Rattle.lot_base.specs.Box.{index_of}
use Rattle.rationale.specs.Edges.{Edge}
use Rattle.rationale.specs.Climbs.{AreBelow, IsPassed, Rooted}
use Rattle.rationale.specs.Observations.{Observation}
use Rattle.rationale.specs.Links.{AreLeastWeights}
use Rattle.rationale.specs.Places.{is_edge, edge_weight, AreBoxed}
use Rattle.rationale.specs.Shown.{label_of, edge_to, parent_of}
use Rattle.rationale.specs.Placed.{IsPlaced, IsRound, IsCourse, AreBetween}
use Rattle.rationale.specs.declared.labels.Parent.{Parent}
use Rattle.rationale.specs.Lines.{along}
use Rattle.rationale.specs.Kept.{lines_by, thin_at, thinned, is_end, IsStretch}
use Rattle.rationale.specs.declared.lines.Line.{Line}
use Rattle.rationale.specs.declared.stretches.Stretch.{Stretch}
use Rattle.rationale.proofs.Growing.{all_append}
use Rattle.rationale.proofs.Bundles.{graph, least_weights}
use Rattle.rationale.proofs.Passes.{settled_least, no_short_climb}
use Rattle.rationale.proofs.Lowering.{get-past, label-at}

-- labels of the number 0, and no parents
zero_label : (labels : List ℕ) → ((i : ℕ) → i < length labels → slice_index labels i ≡ 2 ^ 60) → (y : ℕ) → label_of labels y ≡ pos 0
zero_label labels flat y = elim (cases_lt y (length labels)) [
  | inl inside ↦ (let i = label-at labels y inside in let j = flat y inside in omega (arith, ints))
  | inr past ↦ (let i : slice_index_or labels y (2 ^ 60) ≡ 2 ^ 60 = get-past labels y (2 ^ 60) past in omega (arith, ints))
]

pub placed_start : (supply : List ℕ) (os : List Observation) (labels : List ℕ) (parents : List (Option Parent)) → ((i : ℕ) → i < length labels → slice_index labels i ≡ 2 ^ 60) →
    ((i : ℕ) → slice_index_or parents i None ≡ None) → IsPlaced supply os labels parents
placed_start supply os labels parents flat none =
    let root : (y : ℕ) → parent_of parents y ≡ None = λ y. ap (λ (p : Option Parent). edge_to p y) (none y) in
    record {
      sound = record {
        root = λ y n. zero_label labels flat y;
        there = λ y e p. absurd (let r = root y in cc);
        ends = λ y e p. absurd (let r = root y in cc);
        above = λ y e p. absurd (let r = root y in cc);
        closed = λ y e es c. absurd (let r = root y in let p = c.0 in cc);
      };
      sums = record {
        low = λ y. (let i = zero_label labels flat y in omega (arith, ints));
        reached = λ y. record { from = y; way = []; is_way = refl; sum = sym (zero_label labels flat y) };
      };
    }

pub between_start : (k : ℕ) (labels : List ℕ) → ((i : ℕ) → i < length labels → slice_index labels i ≡ 2 ^ 60) → AreBetween (2 ^ 60 - 0 * k) (2 ^ 60) labels
between_start k labels flat = record { above = λ i inside. (let z = flat i inside in omega arith); below = λ i inside. (let z = flat i inside in omega arith) }

-- what labels may still fall
pub high_enough : (done size n : ℕ) → done < size → size ≤ 2048 → n ≤ 1000000 → 2 ^ 58 + n * 2 ^ 26 ≤ 2 ^ 60 - done * (n * 2 ^ 26)
high_enough done size n few small short =
    let d : done ≤ 2047 = omega arith in
    let k : n * 2 ^ 26 ≤ 1000000 * 2 ^ 26 = omega arith in
    let m : done * (n * 2 ^ 26) ≤ 2047 * (1000000 * 2 ^ 26) = mul-le-mul d k in
    omega (arith, m, k)

pub one_less : (done k : ℕ) → 2 ^ 60 - done * k - k ≡ 2 ^ 60 - (done + 1) * k
one_less done k = let m : (done + 1) * k ≡ done * k + k = grind arith in omega (arith, m)

-- a pass over all observations
pub passed : (supply : List ℕ) (os : List Observation) (n : ℕ) (l0 l1 : List ℕ) (p1 : List (Option Parent)) → length os ≡ n → IsRound supply os 0 n l0 l1 p1 →
    IsPassed (is_edge supply os) (edge_weight supply os) (label_of l0) (label_of l1)
passed supply os n l0 l1 p1 long r = record {
  falls = r.falls;
  followed = λ e there. r.followed e there (omega arith) (let i = (graph supply os).told e there in omega arith);
}

pub least_end : (supply : List ℕ) (os : List Observation) (l0 l1 : List ℕ) (p1 : List (Option Parent)) → AreBoxed supply os → length l0 ≡ box_size supply → length l1 ≡ box_size supply →
    IsPlaced supply os l1 p1 → IsPassed (is_edge supply os) (edge_weight supply os) (label_of l0) (label_of l1) → ((y : ℕ) → y < box_size supply → slice_index l1 y ≡ slice_index l0 y) →
    AreLeastWeights supply os (λ y. label_of l1 (index_of supply y))
least_end supply os l0 l1 p1 good long0 long1 placed passed same =
    least_weights supply os good (label_of l1) (λ y. settled_least (is_edge supply os) (edge_weight supply os) (label_of l1) placed.sums
    (λ e there. (
    let x = (graph supply os).from e there in
    let i = passed.followed e there in
    let a = label-at l0 e.x (omega arith) in
    let b = label-at l1 e.x (omega arith) in
    let s = same e.x x in
    omega (arith, ints))) y)

pub parents_inside : (supply : List ℕ) (os : List Observation) (labels : List ℕ) (parents : List (Option Parent)) → IsPlaced supply os labels parents → length parents ≡ box_size supply →
    (y : ℕ) → IfSome (slice_index_or parents y None) (λ p. p.x < length parents)
parents_inside supply os labels parents placed long y = inside (slice_index_or parents y None) refl
  where
    inside : (p : Option Parent) → slice_index_or parents y None ≡ p → IfSome p (λ q. q.x < length parents)
    inside None e = tt
    inside (Some q) e =
        let edge : Edge = record { observation = q.observation; x = q.x; y = y } in
        let is : parent_of parents y ≡ Some edge = ap (λ (r : Option Parent). edge_to r y) e in
        let x = (graph supply os).from edge (placed.sound.there y edge is) in
        omega arith

-- a label fell, and the climb from it came to a root: then there are further passes
pub more_passes : (supply : List ℕ) (os : List Observation) (done y : ℕ) (l0 l1 : List ℕ) (p1 : List (Option Parent)) → length l0 ≡ box_size supply → length l1 ≡ box_size supply →
    AreBelow (is_edge supply os) (edge_weight supply os) done (label_of l0) → IsPlaced supply os l1 p1 → y < box_size supply → slice_index l1 y < slice_index l0 y →
    Rooted (parent_of p1) y (box_size supply) → done + 1 < box_size supply
more_passes supply os done y l0 l1 p1 long0 long1 below placed inside fell r = elim (cases_lt (done + 1) (box_size supply)) [
  | inl more ↦ more
  | inr end ↦ absurd (
      let short = r.short in
      let a = label-at l0 y (omega arith) in
      let b = label-at l1 y (omega arith) in
      no_short_climb (is_edge supply os) (edge_weight supply os) done (label_of l0) (label_of l1) (parent_of p1) below placed.sound y (omega (arith, ints)) r.way r.root r.climb r.none (omega arith))
]

-- a pass is a round of all observations
pub whole_round : (supply : List ℕ) (os : List Observation) (l0 l1 : List ℕ) (p0 p1 : List (Option Parent)) (last : Option ℕ) → IsCourse supply os 0 l0 p0 l1 p1 last → IsPlaced supply os l0 p0 →
    IsRound supply os 0 (length os) l0 l1 p1
whole_round supply os l0 l1 p0 p1 last course placed =
    let n : 0 + length os ≡ length os = omega arith in
    subst (λ (z : ℕ). IsRound supply os 0 z l0 l1 p1) n (course.round os (λ t inside. (let e : 0 + t ≡ t = omega arith in ap (slice_get os) e)) placed)

-- the bundles of the stretches are in the box
boxed_along : (supply : List ℕ) (f : ℕ → Observation) (n : ℕ) → ((t : ℕ) → AllByRecursion (λ x. AtMost x supply) (f t).bundles) → AreBoxed supply (along f n)
boxed_along supply f zero each = tt
boxed_along supply f (suc n) each = all_append (λ o. AllByRecursion (λ x. AtMost x supply) o.bundles) (along f n) (f n ∷ []) (boxed_along supply f n each) (each n, tt)

chosen : (P : List (List ℕ) → Type 0) (b : Bool) (xs ys : List (List ℕ)) → P xs → P ys → P (if b then xs else ys)
chosen P true xs ys p q = p
chosen P false xs ys p q = q

boxed_lines : (supply : List ℕ) (bundles : List (List ℕ)) (lines : List Line) → AllByRecursion (λ x. AtMost x supply) bundles → AreBoxed supply (lines_by (thin_at bundles) lines)
boxed_lines supply bundles [] inside = tt
boxed_lines supply bundles (line ∷ lines) inside =
    all_append (λ o. AllByRecursion (λ x. AtMost x supply) o.bundles) (along (thin_at bundles line) line.count) (lines_by (thin_at bundles) lines)
    (boxed_along supply (thin_at bundles line) line.count (λ t. chosen (AllByRecursion (λ x. AtMost x supply)) (is_end line t) bundles [] inside tt))
    (boxed_lines supply bundles lines inside)

pub boxed_thin : (supply : List ℕ) (stretches : List Stretch) → AllByRecursion (IsStretch supply) stretches → AreBoxed supply (thinned stretches)
boxed_thin supply [] each = tt
boxed_thin supply (s ∷ stretches) each =
    all_append (λ o. AllByRecursion (λ x. AtMost x supply) o.bundles) (lines_by (thin_at s.demand) s.lines.items) (thinned stretches)
    (boxed_lines supply s.demand s.lines.items each.0.reported.in_box) (boxed_thin supply stretches each.1)
