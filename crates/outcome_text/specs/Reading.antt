-- Reading an outcome from its plain text. A text is one of an outcome where a whole outcome with numbers in range has it.
use Rattle.std.specs.Prelude.{◌≡◌, ◌<◌, ◌^◌, ℕ, ℤ, pos, neg_ℤ, ◌≤ℤ◌, ◌<ℤ◌, List, Option, Some, None, IfSome}
use Rattle.std.specs.List.{AllByRecursion}
use Rattle.settlement.specs.Shapes.{IsWholeOutcome}
use Rattle.settlement.specs.declared.outcome.AwardRow.{AwardRow}
use Rattle.settlement.specs.declared.outcome.ClockRow.{ClockRow}
use Rattle.settlement.specs.declared.outcome.Outcome.{Outcome}
use Rattle.outcome_text.specs.Plain.{plain_text}

-- quantities below 2^16, and prices below 2^32
abbrev pub AreQuantities : List ℕ → Type 0
AreQuantities bundle = AllByRecursion (λ n. n < 2 ^ 16) bundle

abbrev pub ArePrices : List ℕ → Type 0
ArePrices prices = AllByRecursion (λ n. n < 2 ^ 32) prices

-- an integer of 64 bits
pub record IsAmount (z : ℤ) : Type 0 where
  pub low : neg_ℤ (pos (2 ^ 63)) ≤ℤ z
  pub high : z <ℤ pos (2 ^ 63)

-- the numbers of a bidder are in range
pub record IsAwardInRange (row : AwardRow) : Type 0 where
  pub award : AreQuantities row.award
  pub debit : IsAmount row.debit
  pub credit : IsAmount row.credit
  pub pays : IsAmount row.pays

-- the numbers of a clock are in range
pub record IsClockInRange (row : ClockRow) : Type 0 where
  pub steps : row.steps < 2 ^ 32
  pub prices : ArePrices row.prices
  pub choices : AllByRecursion AreQuantities row.choices

-- all numbers of an outcome are in range
pub record IsInRange (o : Outcome) : Type 0 where
  pub prices : ArePrices o.prices
  pub opening : IfSome o.opening ArePrices
  pub rows : AllByRecursion IsAwardInRange o.rows
  pub clocks : AllByRecursion IsClockInRange o.clocks

-- the text is that of this outcome
pub record IsTextOf (bytes : List ℕ) (o : Outcome) : Type 0 where
  pub whole : IsWholeOutcome o
  pub in_range : IsInRange o
  pub spelled : bytes ≡ plain_text o

-- the outcome of which it is the text, or none where it is the text of none
abbrev pub IsReadFrom : List ℕ → Option Outcome → Type 0
IsReadFrom bytes (Some o) = IsTextOf bytes o
IsReadFrom bytes None = (o : Outcome) → IsTextOf bytes o → ⊥
