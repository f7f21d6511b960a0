-- What a table of values may be of.
use Rattle.std.specs.Prelude.{◌≤◌, ℕ, List, length}
use Rattle.lot_base.specs.declared.limits.TheConstants.{MOST_BUNDLES}
use Rattle.lot_base.specs.Goods.{box_size}
use Rattle.lot_base.specs.Strides.{AreStrides}

-- a supply whose box is small enough for a table, and its strides
pub record IsTableOf (supply strides : List ℕ) : Type 0 where
  pub goods : length supply ≤ 6
  pub few : box_size supply ≤ MOST_BUNDLES
  pub distances : AreStrides supply strides
