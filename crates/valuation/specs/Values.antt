-- A bidder's valuation as a list: a value for each bundle of the box, in order of index.
use Rattle.std.specs.Prelude.{◌≡◌, ◌≤◌, ◌<◌, ℕ, List, length, slice_index, ℤ, pos}
use Rattle.lot_base.specs.declared.limits.TheConstants.{GREATEST_CEILING, MOST_BUNDLES}
use Rattle.lot_base.specs.Goods.{box_size}
use Rattle.lot_base.specs.Box.{index_of}

-- the valuation that the values stand for; what is after the last value is worth 0
abbrev pub valuation_of : List ℕ → List ℕ → List ℕ → ℤ
valuation_of supply values x = pos (slice_index values (index_of supply x))

-- values of some bundles: the first, that of the empty bundle, is 0, and each is below the greatest ceiling
pub record AreValues (values : List ℕ) : Type 0 where
  pub some : 1 ≤ length values
  pub few : length values ≤ MOST_BUNDLES
  pub empty : slice_index values 0 ≡ 0
  pub below : (place : ℕ) → slice_index values place < GREATEST_CEILING

-- values of all bundles of the box, each below the ceiling
pub record IsTable (supply : List ℕ) (ceiling : ℕ) (values : List ℕ) : Type 0 where
  pub whole : length values ≡ box_size supply
  pub empty : slice_index values 0 ≡ 0
  pub below : (place : ℕ) → slice_index values place < ceiling
