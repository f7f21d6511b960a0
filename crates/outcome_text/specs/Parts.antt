-- The parts of an outcome of so many goods and bidders, with their numbers in range.
use Rattle.std.specs.Prelude.{◌≡◌, ◌+◌, ℕ, List, length, Option, IfSome}
use Rattle.std.specs.List.{AllByRecursion, AllZip, range_with_len}
use Rattle.lot_base.specs.Goods.{IsRange}
use Rattle.outcome_text.specs.declared.building.Head.{Head}
use Rattle.settlement.specs.Shapes.{IsOf, IsRowOfClock, IsWholeOutcome}
use Rattle.settlement.specs.declared.outcome.AwardRow.{AwardRow}
use Rattle.settlement.specs.declared.outcome.ClockRow.{ClockRow}
use Rattle.settlement.specs.declared.outcome.Outcome.{Outcome}
use Rattle.outcome_text.specs.Reading.{AreQuantities, ArePrices, IsAwardInRange, IsClockInRange, IsInRange}

-- a quantity of two bytes for each good
pub record IsBundleOf (goods : ℕ) (bundle : List ℕ) : Type 0 where
  pub fit : IsOf goods bundle
  pub in_range : AreQuantities bundle

-- a price of four bytes for each good
pub record ArePricesOf (goods : ℕ) (prices : List ℕ) : Type 0 where
  pub fit : IsOf goods prices
  pub in_range : ArePrices prices

-- opening prices that are shown, or none
abbrev pub IsOpeningOf : ℕ → Option (List ℕ) → Type 0
IsOpeningOf goods opening = IfSome opening (ArePricesOf goods)

-- what a text begins with: the numbers of goods and of bidders, and the opening prices, where they are shown
pub record IsHead (h : Head) : Type 0 where
  pub goods : IsRange 1 6 h.goods
  pub bidders : IsRange 1 12 h.bidders
  pub opening : IsOpeningOf h.goods h.opening

-- the row of a bidder: a bundle of these goods, and three amounts
pub record IsAwardOf (goods : ℕ) (row : AwardRow) : Type 0 where
  pub fit : IsOf goods row.award
  pub in_range : IsAwardInRange row

-- a row for each bidder
pub record AreAwardsOf (goods bidders : ℕ) (rows : List AwardRow) : Type 0 where
  pub count : length rows ≡ bidders
  pub each : AllByRecursion (IsAwardOf goods) rows

-- so many bundles of these goods
pub record AreChoicesOf (goods count : ℕ) (choices : List (List ℕ)) : Type 0 where
  pub counted : length choices ≡ count
  pub each : AllByRecursion (IsBundleOf goods) choices

-- the row of a clock of this number: a price for each good, and a bundle for each member
pub record IsClockOf (goods bidders clock : ℕ) (row : ClockRow) : Type 0 where
  pub fit : IsRowOfClock goods bidders clock row
  pub in_range : IsClockInRange row

-- a row for each clock, that of clock 0 first
abbrev pub AreClocksOf : ℕ → ℕ → List ClockRow → Type 0
AreClocksOf goods bidders rows = AllZip (IsClockOf goods bidders) (range_with_len 0 (bidders + 1)) rows

-- an outcome that can be read
pub record IsReadable (o : Outcome) : Type 0 where
  pub whole : IsWholeOutcome o
  pub in_range : IsInRange o
