-- Choosing demand by demand: some total is taken by the demands before, and the demands after are still to choose.
use Rattle.std.specs.Prelude.{◌≡◌, ◌<◌, ℕ, ◌+◌, ◌-◌, Bool, true, false, ◌&&◌, ◌||◌, List, length, drop, Option, is_some, find, slice_index_or}
use Rattle.lot_base.specs.Goods.{plus, is_within, box_size}
use Rattle.lot_base.specs.Box.{index_of, bundle_at}
use Rattle.lot_base.specs.Choices.{choices, clears, sum_of}

-- the first choice of the demands after that clears together with what is taken
unfoldable pub first_choice_after : List ℕ → List ℕ → List ℕ → List (List (List ℕ)) → List ℕ → Option (List (List ℕ))
first_choice_after supply opening p demands taken = find (λ choice. clears opening p (plus taken (sum_of supply choice)) supply) (choices demands)

-- whether there is one
abbrev pub can_clear : List ℕ → List ℕ → List ℕ → List (List (List ℕ)) → List ℕ → Bool
can_clear supply opening p demands taken = is_some (first_choice_after supply opening p demands taken)

-- a truth value for each bundle of the box, at the bundle's place: whether the demands after can clear where it is taken
pub record IsReach (supply opening p : List ℕ) (demands : List (List (List ℕ))) (table : List Bool) : Type 0 where
  pub size : length table ≡ box_size supply
  pub each : (place : ℕ) → place < box_size supply → slice_index_or table place false ≡ can_clear supply opening p demands (bundle_at supply place)

-- whether a total is within the supply and true in the table
abbrev pub has_total : List ℕ → List Bool → List ℕ → Bool
has_total supply table total = is_within supply total && slice_index_or table (index_of supply total) false

-- the totals that are true in the table with this bundle more are true beside those that were before
pub record IsWith (supply : List ℕ) (table : List Bool) (bundle : List ℕ) (before after : List Bool) : Type 0 where
  pub size : length after ≡ length before
  pub each : (place : ℕ) → place < box_size supply → slice_index_or after place false ≡ (slice_index_or before place false || has_total supply table (plus (bundle_at supply place) bundle))

abbrev pub AreAllTrue : List Bool → Type 0
AreAllTrue table = (place : ℕ) → place < length table → slice_index_or table place false ≡ true

-- at place k, what the last k demands can clear, for the last so many demands
pub record AreReaches (supply opening p : List ℕ) (demands : List (List (List ℕ))) (last : ℕ) (tables : List (List Bool)) : Type 0 where
  pub count : length tables ≡ last + 1
  pub each : (k : ℕ) (other : List Bool) → k < length tables → IsReach supply opening p (drop (length demands - k) demands) (slice_index_or tables k other)
