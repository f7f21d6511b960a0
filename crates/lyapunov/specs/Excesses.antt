-- Excess demand as a table over the sets of goods: how far the least quantities that the bidders demand of a set are above
-- the supply of it. The least quantities of one bidder are a table too. Entry E of a table is that of the set with number E,
-- and the entries after the last set are 0.
use Rattle.std.specs.Prelude.{◌≡◌, ◌≤◌, ◌<◌, ℕ, ◌+◌, ◌^◌, List, [], ◌∷◌, length, slice_index, slice_index_or, ℤ, pos, negsuc, ◌+ℤ◌, ◌-ℤ◌, ◌≤ℤ◌}
use Rattle.lot_base.specs.declared.limits.TheConstants.{MOST_UNITS}
use Rattle.lot_base.specs.Goods.{quantity_in}
use Rattle.lot_base.specs.declared.tables.LeastTable.{LeastTable}

-- an entry of a table of integers, 0 after its end
abbrev pub entry : List ℤ → ℕ → ℤ
entry table set = slice_index_or table set (pos 0)

-- the entries of the tables at a set, added up
abbrev pub total_at : List LeastTable → ℕ → ℕ
total_at [] set = 0
total_at (table ∷ tables) set = slice_index table.0 set + total_at tables set

-- the table of the excess of these goods, where the bidders have these tables
pub record IsExcessOf (goods : List ℕ) (tables : List LeastTable) (table : List ℤ) : Type 0 where
  pub entries : (set : ℕ) → set < 2 ^ length goods → entry table set ≡ pos (total_at tables set) -ℤ pos (quantity_in goods set)
  pub others : (set : ℕ) → 2 ^ length goods ≤ set → entry table set ≡ pos 0

-- the table of a further bidder is added at each set of the goods, and nowhere else
pub record IsAdded (goods table : List ℕ) (old new : List ℤ) : Type 0 where
  pub entries : (set : ℕ) → set < 2 ^ length goods → entry new set ≡ entry old set +ℤ pos (slice_index table set)
  pub others : (set : ℕ) → 2 ^ length goods ≤ set → entry new set ≡ entry old set

-- the table of a bidder is put in the place of its table before, at each set of the goods, and nowhere else
pub record IsReplaced (goods before table : List ℕ) (old new : List ℤ) : Type 0 where
  pub entries : (set : ℕ) → set < 2 ^ length goods → entry new set ≡ (entry old set -ℤ pos (slice_index before set)) +ℤ pos (slice_index table set)
  pub others : (set : ℕ) → 2 ^ length goods ≤ set → entry new set ≡ entry old set

-- no entry is above the most units of any set, which is the most of one good
pub record IsSmall (table : List ℕ) : Type 0 where
  pub entries : (set : ℕ) → slice_index table set ≤ MOST_UNITS

-- each entry leaves room for one more small table among twelve
pub record HasRoom (table : List ℤ) : Type 0 where
  pub at_least : (set : ℕ) → negsuc 2046 ≤ℤ entry table set
  pub at_most : (set : ℕ) → entry table set ≤ℤ pos 22517

-- the same without the table of a bidder that is in it
pub record HasRoomWithout (before : List ℕ) (table : List ℤ) : Type 0 where
  pub at_least : (set : ℕ) → negsuc 2046 ≤ℤ entry table set
  pub at_most : (set : ℕ) → entry table set ≤ℤ pos (22517 + slice_index before set)
