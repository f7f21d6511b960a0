-- The place of a bundle in the box of a supply, if it is within it.
use Rattle.std.specs.Prelude.{ℕ, if◌then◌else◌, List, Option, Some, None}
use Rattle.lot_base.specs.Goods.{is_within}
use Rattle.lot_base.specs.Box.{index_of}

abbrev pub place_in : List ℕ → List ℕ → Option ℕ
place_in supply bundle = if is_within supply bundle then Some (index_of supply bundle) else None
