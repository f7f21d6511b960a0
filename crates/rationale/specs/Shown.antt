-- What labels and parents mean, and an observation as numbers at the places of the box.
use Rattle.std.specs.Prelude.{◌≡◌, ◌<◌, ◌^◌, ℕ, List, map, length, slice_index, slice_index_or, Option, Some, None}
use Rattle.std.specs.Prelude.{ℤ, pos, ◌-ℤ◌, if◌then◌else◌}
use Rattle.lot_base.specs.Goods.{cost, box_size}
use Rattle.lot_base.specs.Box.{bundle_at}
use Rattle.rationale.specs.Edges.{Edge}
use Rattle.rationale.specs.Observations.{Observation}
use Rattle.rationale.specs.Links.{is_in}
use Rattle.rationale.specs.declared.labels.Parent.{Parent}

abbrev pub label_of : List ℕ → ℕ → ℤ
label_of labels y = pos (slice_index_or labels y (2 ^ 60)) -ℤ pos (2 ^ 60)

abbrev pub edge_to : Option Parent → ℕ → Option Edge
edge_to None y = None
edge_to (Some p) y = Some (record { observation = p.observation; x = p.x; y = y })

abbrev pub parent_of : List (Option Parent) → ℕ → Option Edge
parent_of parents y = edge_to (slice_index_or parents y None) y

-- the cost of each bundle of the box, 0 where it is demanded and else 1, and the places of the demand
pub record IsShown (supply : List ℕ) (o : Observation) (costs gaps places : List ℕ) : Type 0 where
  pub costs_long : length costs ≡ box_size supply
  pub gaps_long : length gaps ≡ box_size supply
  pub costs_are : (k : ℕ) → k < box_size supply → slice_index costs k ≡ cost o.prices (bundle_at supply k)
  pub gaps_are : (k : ℕ) → k < box_size supply → slice_index gaps k ≡ (if is_in (bundle_at supply k) o.bundles then 0 else 1)
  pub bundles_are : o.bundles ≡ map (bundle_at supply) places
  pub inside : (j : ℕ) → j < length places → slice_index places j < box_size supply
