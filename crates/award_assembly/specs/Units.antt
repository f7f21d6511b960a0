-- The units of the bundles of the box, all goods together, and which totals a further bundle makes true.
use Rattle.std.specs.Prelude.{◌≡◌, ◌<◌, ◌≤◌, ℕ, ◌+◌, ◌==◌, Bool, true, false, ◌||◌, List, length, sum, slice_index, slice_index_or}
use Rattle.lot_base.specs.Goods.{box_size}
use Rattle.lot_base.specs.Box.{bundle_at}
use Rattle.lot_base.specs.declared.limits.TheConstants.{MOST_BUNDLES}
use Rattle.award_assembly.specs.declared.reach.TheConstants.{NO_TOTAL}

-- how many units of all goods together each bundle of the box has, at the bundle's place
pub record AreUnits (supply units : List ℕ) : Type 0 where
  pub size : length units ≡ box_size supply
  pub each : (place : ℕ) → place < box_size supply → slice_index units place ≡ sum (bundle_at supply place)
  pub few : (place : ℕ) → place < box_size supply → slice_index units place < MOST_BUNDLES

-- the units of a total where it is true, and else a number that no two bundles have together
abbrev pub key_of : Bool → ℕ → ℕ
key_of true units = units
key_of false units = NO_TOTAL

-- the keys of all totals of a table
pub record AreKeys (units : List ℕ) (table : List Bool) (keys : List ℕ) : Type 0 where
  pub size : length keys ≡ length table
  pub each : (place : ℕ) → place < length table → slice_index keys place ≡ key_of (slice_index_or table place false) (slice_index units place)

-- beside those that were true before, the truth values are true where the key is the units and so many more
pub record IsJoined (keys units : List ℕ) (more : ℕ) (before after : List Bool) : Type 0 where
  pub size : length after ≡ length before
  pub each : (place : ℕ) → place < length keys → slice_index_or after place false ≡ (slice_index_or before place false || slice_index keys place == slice_index units place + more)
  pub rest : (place : ℕ) → length keys ≤ place → slice_index_or after place false ≡ slice_index_or before place false
