-- The shape of an outcome: each bundle and each list of prices has as many entries as there are goods, there is a row for each
-- bidder, a row for each clock, one more than there are bidders, and in it a bundle for each member of the clock.
use Rattle.std.specs.Prelude.{◌≡◌, ◌≤◌, ◌+◌, ℕ, ⊤, List, [], ◌∷◌, length, IfSome}
use Rattle.std.specs.List.{AllByRecursion, AllZip, range_with_len}
use Rattle.clock.specs.Reports.{members}
use Rattle.settlement.specs.declared.outcome.AwardRow.{AwardRow}
use Rattle.settlement.specs.declared.outcome.ClockRow.{ClockRow}
use Rattle.settlement.specs.declared.outcome.Outcome.{Outcome}
use Rattle.settlement.specs.declared.outcome.Settlement.{Settlement}
use Rattle.settlement.specs.declared.outcome.Settlement.TheVariants.{Settled, Open, Halted, NoAward}

-- it has one entry for each good
abbrev pub IsOf : ℕ → List ℕ → Type 0
IsOf goods entries = length entries ≡ goods

-- the row of the clock of that number: a price for each good, and a bundle for each member
pub record IsRowOfClock (goods bidders clock : ℕ) (row : ClockRow) : Type 0 where
  pub prices_fit : IsOf goods row.prices
  pub members_choose : length row.choices ≡ length (members bidders clock)
  pub choices_fit : AllByRecursion (IsOf goods) row.choices

-- the prices are those of the first row
abbrev pub ArePricesOfFirst : List ℕ → List ClockRow → Type 0
ArePricesOfFirst prices [] = ⊥
ArePricesOfFirst prices (row ∷ rows) = prices ≡ row.prices

pub record HasShape (goods bidders : ℕ) (o : Outcome) : Type 0 where
  pub prices_fit : IsOf goods o.prices
  pub opening_fits : IfSome o.opening (IsOf goods)
  pub bidders_fit : length o.rows ≡ bidders
  pub awards_fit : AllByRecursion (λ (row : AwardRow). IsOf goods row.award) o.rows
  pub clocks_fit : AllZip (IsRowOfClock goods bidders) (range_with_len 0 (bidders + 1)) o.clocks
  pub first : ArePricesOfFirst o.prices o.clocks

-- an outcome of 1 to 6 goods and 1 to 12 bidders, of one shape throughout
pub record IsWholeOutcome (o : Outcome) : Type 0 where
  pub some_goods : 1 ≤ length o.prices
  pub few_goods : length o.prices ≤ 6
  pub some_bidders : 1 ≤ length o.rows
  pub few_bidders : length o.rows ≤ 12
  pub shape : HasShape (length o.prices) (length o.rows) o

-- where there is an outcome, it is whole
abbrev pub IsWholeSettlement : Settlement → Type 0
IsWholeSettlement (Settled o) = IsWholeOutcome o
IsWholeSettlement (Open clock round missing) = ⊤
IsWholeSettlement (Halted clock good) = ⊤
IsWholeSettlement (NoAward clock) = ⊤
