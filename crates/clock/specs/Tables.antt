-- The tables of what the members of a clock demand at least in a round: the table of bidder j is at place j, and there is none
-- for one who is no member.
use Rattle.std.specs.Prelude.{◌≡◌, ◌<◌, ◌^◌, ◌==◌, ℕ, Bool, nat_le, not, ◌&&◌, if◌then◌else◌, List, length, Option, None, slice_index_or}
use Rattle.lot_base.specs.Demands.{least}
use Rattle.lot_base.specs.declared.tables.LeastTable.{LeastTable}
use Rattle.credit_book.specs.Account.{least_in}

-- whether a number is that of a member, where there are so many bidders
abbrev pub is_member_of : ℕ → ℕ → ℕ → Bool
is_member_of bidders clock j = nat_le 1 j && (nat_le j bidders && not (j == clock))

abbrev pub AreTablesOf : List ℕ → (ℕ → List (List ℕ)) → ℕ → ℕ → List (Option LeastTable) → Type 0
AreTablesOf goods demands bidders clock tables =
    (j set : ℕ) → set < 2 ^ length goods → least_in (slice_index_or tables j None) set ≡ (if is_member_of bidders clock j then least (demands j) set else 0)
