-- What the members of a clock demand in a round, added up by the least or by the greatest quantities.
use Rattle.std.specs.Prelude.{◌≡◌, ◌<◌, ◌^◌, ℕ, if◌then◌else◌, List, length, Option, None, slice_index_or, pos, negsuc, ◌-ℤ◌, ◌≤ℤ◌}
use Rattle.lot_base.specs.Demands.{least, greatest}
use Rattle.lot_base.specs.Economy.{total_units}
use Rattle.lot_base.specs.Goods.{quantity_in}
use Rattle.lot_base.specs.declared.tables.LeastTable.{LeastTable}
use Rattle.lyapunov.specs.Excesses.{entry}
use Rattle.credit_book.specs.Account.{least_in}
use Rattle.clock.specs.Reports.{members}
use Rattle.clock.specs.Tables.{is_member_of}
use Rattle.two_way.specs.declared.quantities.Amount.{Amount}
use Rattle.two_way.specs.declared.quantities.Amount.TheVariants.{Least, Greatest}
use Rattle.two_way.specs.declared.quantities.Quantities.{Quantities}

-- the least or the greatest that a demand has of a set
abbrev pub amount_in : Amount → List (List ℕ) → ℕ → ℕ
amount_in Least demand set = least demand set
amount_in Greatest demand set = greatest demand set

-- the table of a member is at its number, and there is none for one who is no member
abbrev pub AreTables : List ℕ → (ℕ → ℕ → ℕ) → ℕ → ℕ → List (Option LeastTable) → Type 0
AreTables goods amounts bidders clock tables =
    (j set : ℕ) → set < 2 ^ length goods → least_in (slice_index_or tables j None) set ≡ (if is_member_of bidders clock j then amounts j set else 0)

-- the tables of the members, and how far their amounts together are above the supply of each set
pub record AddUp (goods : List ℕ) (amounts : ℕ → ℕ → ℕ) (bidders clock : ℕ) (q : Quantities) : Type 0 where
  -- each member has its table
  pub tables : AreTables goods amounts bidders clock q.tables
  -- each set has its entry
  pub entries : (set : ℕ) → set < 2 ^ length goods → entry q.excess.0 set ≡ pos (total_units (λ j. amounts j set) (members bidders clock)) -ℤ pos (quantity_in goods set)
  -- no entry is far from 0
  pub at_least : (set : ℕ) → negsuc 2046 ≤ℤ entry q.excess.0 set
  pub at_most : (set : ℕ) → entry q.excess.0 set ≤ℤ pos 24564
