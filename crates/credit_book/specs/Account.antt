-- What the steps of a clock add up to: for each bidder, the units of the step sets that the other bidders leave. The
-- payments of Ausubel, "An Efficient Dynamic Auction for Heterogeneous Commodities", American Economic Review 96(3), 2006,
-- are read from such sums. Bidders are numbered 1 to 12; 0 is nobody.
use Rattle.std.specs.Prelude.{ℕ, List, Option, Some, None, slice_index, slice_index_or, ℤ, pos, ◌-ℤ◌}
use Rattle.std.specs.List.{range_with_len}
use Rattle.lot_base.specs.Goods.{quantity_in}
use Rattle.lot_base.specs.Economy.{total_units, without}
use Rattle.lot_base.specs.declared.tables.LeastTable.{LeastTable}

-- the least that a bidder demands of the set, 0 for one who is no member
abbrev pub least_in : Option LeastTable → ℕ → ℕ
least_in None set = 0
least_in (Some table) set = slice_index table.0 set

-- the bidders but one
unfoldable pub others : ℕ → List ℕ
others bidder = without bidder (range_with_len 1 12)

-- what the bidders but one leave of the set: the supply of it, less the least of each; bidder j's table is at place j
unfoldable pub units_left : List ℕ → List (Option LeastTable) → ℕ → ℕ → ℤ
units_left supply tables set bidder =
    pos (quantity_in supply set) -ℤ pos (total_units (λ j. least_in (slice_index_or tables j None) set) (others bidder))

-- an account: the number of steps, the supplies of their sets added up, and for each bidder, at its number, the least that
-- it demanded of them added up
pub record Sums : Type 0 where
  pub steps : ℕ
  pub units : ℕ
  pub least : List ℕ

-- what the bidders but one leave over all steps of the account
unfoldable pub sum_without : Sums → ℕ → ℤ
sum_without account bidder = pos account.units -ℤ pos (total_units (λ j. slice_index account.least j) (others bidder))
