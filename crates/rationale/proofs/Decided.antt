-- The values of labels, and what parents of a sound climb are.
use Rattle.std.proofs.Common.{◌≡◌, ◌≤◌, ◌<◌, ℕ, List, [], ◌∷◌, length, slice_index, Some, None, arith, ap, refl, sym, ◌∙◌}
use Rattle.std.specs.Prelude.{Option, slice_index_or, IfSome, ℤ, pos, ◌-ℤ◌}
use Rattle.std.proofs.lemmas.Int.{ints}
use Rattle.std.proofs.lemmas.List.{ext_get_or}
use Rattle.lot_base.specs.Goods.{box_size, zeros, AtMost}
use Rattle.lot_base.specs.Box.{index_of, bundle_at}
use Rattle.lot_base.proofs.Index.{index_of-small, box_size-above_0, bundle_at-within, index_of-bundle_at}
use Rattle.rationale.specs.Edges.{Edge}
use Rattle.rationale.specs.Climbs.{IsSound}
use Rattle.rationale.specs.Observations.{Observation, AreObservations}
use Rattle.rationale.specs.Links.{IsLeastWeight, AreLeastWeights}
use Rattle.rationale.specs.Places.{is_edge, edge_weight}
use Rattle.rationale.specs.Shown.{label_of, edge_to, parent_of}
use Rattle.rationale.specs.Turned.{AreParents}
use Rattle.rationale.specs.Decisions.{value_of, IsExplanation}
use Rattle.rationale.specs.declared.labels.Parent.{Parent}
use Rattle.rationale.proofs.Bundles.{graph, link-within}
use Rattle.rationale.proofs.Explained.{boxed, links-explain, least-links}
use Rattle.rationale.proofs.Lowering.{label-at}

index_of-zeros : (supply : List ℕ) → index_of supply (zeros supply) ≡ 0
index_of-zeros [] = refl
index_of-zeros (s ∷ supply) = let i = index_of-zeros supply in omega arith

pub values_are : (supply labels : List ℕ) (values : List ℤ) → length labels ≡ box_size supply → length values ≡ length labels →
    ((i : ℕ) → i < length labels → slice_index_or values i (pos 0) ≡ pos (slice_index labels i) -ℤ pos (slice_index labels 0)) →
    (y : List ℕ) → AtMost y supply → value_of supply values y ≡ label_of labels (index_of supply y) -ℤ label_of labels (index_of supply (zeros supply))
values_are supply labels values long whole each y within =
    let i = index_of-small supply y within in
    let some = box_size-above_0 supply in
    let e = each (index_of supply y) (omega arith) in
    let a = label-at labels (index_of supply y) (omega arith) in
    let b = ap (label_of labels) (index_of-zeros supply) in
    let c = label-at labels 0 (omega arith) in
    omega (arith, ints)

zeros-within : (supply : List ℕ) → AtMost (zeros supply) supply
zeros-within [] = tt
zeros-within (s ∷ supply) = (omega arith, zeros-within supply)

-- values that are the least weights, less that of the empty bundle, are a valuation that explains the observations
pub explanation : (supply : List ℕ) (os : List Observation) (m : List ℕ → ℤ) (values : List ℤ) → AreObservations supply os → AreLeastWeights supply os m → length values ≡ box_size supply →
    ((y : List ℕ) → AtMost y supply → value_of supply values y ≡ m y -ℤ m (zeros supply)) → IsExplanation supply os values
explanation supply os m values good least whole each = record {
  m = m;
  least = least;
  whole = whole;
  each = each;
  valuation = (let i = each (zeros supply) (zeros-within supply) in omega (arith, ints));
  explains = links-explain supply (value_of supply values) os good
      (λ l link. (
      let b = boxed supply os good in
      let i = least-links supply os m b least l link in
      let x = each l.x (link-within supply os l b link) in
      let y = each l.y link.in_box in
      omega (arith, ints)));
}

pub parents_known : (supply : List ℕ) (os : List Observation) (m : ℕ → ℤ) (parents : List (Option Parent)) → IsSound (is_edge supply os) (edge_weight supply os) m (parent_of parents) → length os ≤ 1000000 →
    AreParents (box_size supply) parents
parents_known supply os m parents sound few y = known (slice_index_or parents y None) refl
  where
    known : (p : Option Parent) → slice_index_or parents y None ≡ p → IfSome p (λ q. (q.x < box_size supply) × (q.observation < 1000000))
    known None e = tt
    known (Some q) e =
        let edge : Edge = record { observation = q.observation; x = q.x; y = y } in
        let is : parent_of parents y ≡ Some edge = ap (λ (r : Option Parent). edge_to r y) e in
        let there = sound.there y edge is in
        let x = (graph supply os).from edge there in
        let told = (graph supply os).told edge there in
        (omega arith, omega arith)

-- least weights are one number, and so are the values
same_least : (supply : List ℕ) (os : List Observation) (y : List ℕ) (a b : ℤ) → IsLeastWeight supply os y a → IsLeastWeight supply os y b → a ≡ b
same_least supply os y a b l k =
    let i = l.bound k.from k.links k.chain in
    let j = k.bound l.from l.links l.chain in
    let r = l.reached in
    let s = k.reached in
    omega (arith, ints)

pub one_table : (supply : List ℕ) (os : List Observation) (values others : List ℤ) → IsExplanation supply os values → IsExplanation supply os others → values ≡ others
one_table supply os values others e f = ext_get_or (pos 0) values others (e.whole ∙ sym f.whole) (λ i inside. (
    let long = e.whole in
    let small : i < box_size supply = omega arith in
    let y = bundle_at supply i in
    let within = bundle_at-within supply i small in
    let at = index_of-bundle_at supply i small in
    let a = ap (λ (k : ℕ). slice_index_or values k (pos 0)) at in
    let b = ap (λ (k : ℕ). slice_index_or others k (pos 0)) at in
    let g = e.each y within in
    let h = f.each y within in
    let m = same_least supply os y (e.m y) (f.m y) (e.least y within) (f.least y within) in
    let n = same_least supply os (zeros supply) (e.m (zeros supply)) (f.m (zeros supply)) (e.least (zeros supply) (zeros-within supply)) (f.least (zeros supply) (zeros-within supply)) in
    omega (arith, ints)))
