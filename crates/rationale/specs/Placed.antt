-- Demands at the places of the box, and labels and parents that are right for observations.
use Rattle.std.specs.Prelude.{◌≡◌, ◌≤◌, ◌<◌, ◌*◌, ◌+◌, ◌-◌, ◌^◌, true, ℕ, List, map, length, slice_index, slice_get, Option}
use Rattle.std.specs.Prelude.{Some, None, ◌+ℤ◌, ◌≤ℤ◌, if◌then◌else◌}
use Rattle.lot_base.specs.Goods.{box_size}
use Rattle.lot_base.specs.Box.{bundle_at}
use Rattle.rationale.specs.Observations.{Observation}
use Rattle.rationale.specs.Edges.{Edge}
use Rattle.rationale.specs.Links.{is_in}
use Rattle.rationale.specs.Climbs.{IsSound, AreSums}
use Rattle.rationale.specs.Places.{is_edge, edge_weight}
use Rattle.rationale.specs.Shown.{label_of, parent_of}
use Rattle.rationale.specs.declared.labels.Parent.{Parent}

-- the bundles at places of the box
abbrev pub bundles_at : List ℕ → List ℕ → List (List ℕ)
bundles_at supply places = map (bundle_at supply) places

-- the places of a demand, and 0 at each of them and 1 at the others
pub record IsWanted (supply places gaps : List ℕ) : Type 0 where
  pub some : 1 ≤ length places
  pub inside : (j : ℕ) → j < length places → slice_index places j < box_size supply
  pub gaps_long : length gaps ≡ box_size supply
  pub gaps_are : (k : ℕ) → k < box_size supply →
      slice_index gaps k ≡ (if is_in (bundle_at supply k) (bundles_at supply places) then 0 else 1)

-- labels and parents of the places that are right for the observations
pub record IsPlaced (supply : List ℕ) (os : List Observation) (labels : List ℕ) (parents : List (Option Parent)) : Type 0 where
  pub sound : IsSound (is_edge supply os) (edge_weight supply os) (label_of labels) (parent_of parents)
  pub sums : AreSums (is_edge supply os) (edge_weight supply os) (label_of labels)

-- the links of an observation have been followed
pub record IsFollowed (supply : List ℕ) (os : List Observation) (number : ℕ)
    (labels labels' : List ℕ) (parents' : List (Option Parent)) : Type 0 where
  pub placed : IsPlaced supply os labels' parents'
  pub falls : (y : ℕ) → label_of labels' y ≤ℤ label_of labels y
  pub followed : (e : Edge) → is_edge supply os e ≡ true → e.observation ≡ number →
      label_of labels' e.y ≤ℤ (label_of labels e.x +ℤ edge_weight supply os e)

-- the labels are from low to high
pub record AreBetween (low high : ℕ) (labels : List ℕ) : Type 0 where
  pub above : (i : ℕ) → i < length labels → low ≤ slice_index labels i
  pub below : (i : ℕ) → i < length labels → slice_index labels i ≤ high

-- the links of the observations from one on and before another have been followed, from labels no greater than at the start
pub record IsRound (supply : List ℕ) (os : List Observation) (first number : ℕ)
    (labels labels' : List ℕ) (parents' : List (Option Parent)) : Type 0 where
  pub placed : IsPlaced supply os labels' parents'
  pub falls : (y : ℕ) → label_of labels' y ≤ℤ label_of labels y
  pub followed : (e : Edge) → is_edge supply os e ≡ true → first ≤ e.observation → e.observation < number →
      label_of labels' e.y ≤ℤ (label_of labels e.x +ℤ edge_weight supply os e)

-- the place's label fell, or no label did
abbrev pub Fell : Option ℕ → ℕ → List ℕ → List ℕ → Type 0
Fell None n labels labels' = (y : ℕ) → y < n → slice_index labels' y ≡ slice_index labels y
Fell (Some y) n labels labels' = (y < n) × (slice_index labels' y < slice_index labels y)

-- the part stands in the list from a place on
abbrev pub StandsFrom : List Observation → ℕ → List Observation → Type 0
StandsFrom part start os = (t : ℕ) → t < length part → slice_get os (start + t) ≡ slice_get part t

-- what following a part of the observations, which stands from a place on, makes of labels and parents
pub record IsCourse (supply : List ℕ) (part : List Observation) (start : ℕ) (labels : List ℕ) (parents : List (Option Parent))
    (labels' : List ℕ) (parents' : List (Option Parent)) (last : Option ℕ) : Type 0 where
  pub labels_long : length labels' ≡ box_size supply
  pub parents_long : length parents' ≡ box_size supply
  pub between : (low : ℕ) → 2 ^ 58 + length part * 2 ^ 26 ≤ low →
      AreBetween low (2 ^ 60) labels → AreBetween (low - length part * 2 ^ 26) (2 ^ 60) labels'
  pub round : (os : List Observation) → StandsFrom part start os → IsPlaced supply os labels parents →
      IsRound supply os start (start + length part) labels labels' parents'
  pub falls : (y : ℕ) → y < box_size supply → slice_index labels' y ≤ slice_index labels y
  pub fell : Fell last (box_size supply) labels labels'
