-- What the clocks of an auction settle, for any reports. The payments are those of Ausubel, "An Efficient Dynamic Auction for
-- Heterogeneous Commodities", American Economic Review 96(3), 2006: a bidder's debit is the account of the clock without it,
-- and its credit is what the other bidders' part of the account of the clock of all is.
use Rattle.std.specs.Prelude.{◌≡◌, pos, ◌+ℤ◌, ◌-ℤ◌, List, [], ◌∷◌, map, find, Some, None, MatchOption, Bool}
use Rattle.std.specs.List.{AllZip}
use Rattle.lot_base.specs.Goods.{cost}
use Rattle.lot_base.specs.declared.phases.Phase.TheVariants as phase
use Rattle.clock.specs.Reports.{ClockHistory}
use Rattle.clock.specs.Standing.{phase_of, prices_of, steps_of, last_round, missing_of}
use Rattle.clock.specs.Accounts.{account_without}
use Rattle.settlement.specs.Clocks.{is_running, is_halted, has_no_choice, choice_of, opening_of}
use Rattle.settlement.specs.declared.outcome.AwardRow.{AwardRow}
use Rattle.settlement.specs.declared.outcome.ClockRow.{ClockRow}
use Rattle.settlement.specs.declared.outcome.Outcome.{Outcome}
use Rattle.settlement.specs.declared.outcome.Settlement.{Settlement}
use Rattle.settlement.specs.declared.outcome.Settlement.TheVariants.{Settled, Open, Halted, NoAward}

-- some clock passes the test, and P holds of the first that does
abbrev pub OfFirst : (ClockHistory → Bool) → List ClockHistory → (ClockHistory → Type 0) → Type 0
OfFirst test clocks P = MatchOption (find test clocks) ⊥ P

-- no clock passes the test
abbrev pub NoneIs : (ClockHistory → Bool) → List ClockHistory → Type 0
NoneIs test clocks = find test clocks ≡ None

-- the row of a clock: its steps, its last prices and the bundles of its members in the first choice that clears, in order
pub record IsClockRow (c : ClockHistory) (row : ClockRow) : Type 0 where
  pub steps_are : row.steps ≡ steps_of c
  pub prices_are : row.prices ≡ prices_of c
  pub choice_is : choice_of c ≡ Some row.choices

-- the row of a bidder with an award, from the clock of all bidders and the clock without it
pub record IsAwardRow (all own : ClockHistory) (row : AwardRow) : Type 0 where
  pub debit_is : row.debit ≡ account_without own 0
  pub credit_is : row.credit ≡ account_without all own.number
  pub pays_is : row.pays ≡ (pos (cost (prices_of all) row.award) +ℤ row.debit) -ℤ row.credit

-- The outcome where each clock has a choice that clears: the last prices of the clock of all, the opening prices that the seller has
-- named, a row for each bidder, whose
-- awards are that clock's first choice, and a row for each clock.
pub record AreSettled (all : ClockHistory) (others : List ClockHistory) (outcome : Outcome) : Type 0 where
  pub prices_are : outcome.prices ≡ prices_of all
  pub opening_is : outcome.opening ≡ opening_of all.terms
  pub awards_are : choice_of all ≡ Some (map (λ (row : AwardRow). row.award) outcome.rows)
  pub rows_are : AllZip (IsAwardRow all) others outcome.rows
  pub clocks_are : AllZip IsClockRow (all ∷ others) outcome.clocks

abbrev pub IsSettled : List ClockHistory → Outcome → Type 0
IsSettled [] outcome = ⊥
IsSettled (all ∷ others) outcome = AreSettled all others outcome

-- no clock is running, and none has halted
abbrev pub HaveEnded : List ClockHistory → Type 0
HaveEnded clocks = NoneIs is_running clocks × NoneIs is_halted clocks

-- The clocks have this outcome: the first one that is running, else the first that has halted, else the first of which no
-- choice clears, else the rows.
abbrev pub IsOutcomeOf : List ClockHistory → Settlement → Type 0
IsOutcomeOf clocks (Open clock round missing) =
    OfFirst is_running clocks (λ c. (clock ≡ c.number) × (round ≡ last_round c) × (missing ≡ missing_of c))
IsOutcomeOf clocks (Halted clock good) =
    NoneIs is_running clocks × OfFirst is_halted clocks (λ c. (clock ≡ c.number) × (phase_of c ≡ phase.Halted good))
IsOutcomeOf clocks (NoAward clock) =
    NoneIs is_running clocks × NoneIs is_halted clocks × OfFirst has_no_choice clocks (λ c. clock ≡ c.number)
IsOutcomeOf clocks (Settled outcome) =
    NoneIs is_running clocks × NoneIs is_halted clocks × NoneIs has_no_choice clocks × IsSettled clocks outcome
