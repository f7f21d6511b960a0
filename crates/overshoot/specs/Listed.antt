-- A demand in the box of its goods: which bundles of the box it has, and where two bundles stand there.
use Rattle.std.specs.Prelude.{◌≡◌, ◌↔◌, ℕ, Bool, true, false, List, length, slice_index_or}
use Rattle.lot_base.specs.Goods.{AtMost, box_size}
use Rattle.lot_base.specs.Box.{IsIn, index_of}
use Rattle.lot_base.specs.Demands.{IsDemand}
use Rattle.lot_base.specs.Strides.{AreStrides}

-- a truth value for each bundle of the box, at the bundle's place: whether the list has it
pub record AreMarks (supply : List ℕ) (xs : List (List ℕ)) (marks : List Bool) : Type 0 where
  pub size : length marks ≡ box_size supply
  pub each : (x : List ℕ) → AtMost x supply → (slice_index_or marks (index_of supply x) false ≡ true) ↔ IsIn x xs

-- a demand with its marks, and how far apart the bundles of the box stand
pub record IsMarked (supply : List ℕ) (xs : List (List ℕ)) (strides : List ℕ) (marks : List Bool) : Type 0 where
  pub listed : IsDemand supply xs
  pub apart : AreStrides supply strides
  pub marked : AreMarks supply xs marks

-- two bundles of the box, and their places there
pub record IsPair (supply x y : List ℕ) (from to : ℕ) : Type 0 where
  pub in_x : AtMost x supply
  pub in_y : AtMost y supply
  pub from_is : from ≡ index_of supply x
  pub to_is : to ≡ index_of supply y
