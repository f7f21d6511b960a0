-- Two-way clocks whose members report what they demand by their valuations, in every round, until the clock has ended. So their
-- histories are given by the terms, the start prices and the valuations alone.
use Rattle.std.specs.Prelude.{◌≡◌, ℕ, zero, suc, ◌+◌, Bool, true, false, List, [], ◌++◌, ℤ}
use Rattle.std.specs.List.{AllByRecursion}
use Rattle.lot_base.specs.Economy.{AllStrongSubstitutes}
use Rattle.lot_base.specs.declared.auction_terms.Terms.{Terms}
use Rattle.lot_base.specs.declared.phases.Phase.TheVariants.{Ended}
use Rattle.demand_set.specs.declared.reports.Report.{Report}
use Rattle.clock.specs.Reports.{members, all_bidders}
use Rattle.settlement.specs.declared.outcome.AwardRow.{AwardRow}
use Rattle.trial.specs.Trials.{round_reports}
use Rattle.trial.specs.Refusals.{IsFirstWithout}
use Rattle.two_way.specs.Histories.{TwoWayHistory}
use Rattle.settlement.specs.Clocks.{runs}
use Rattle.two_way.specs.Standing.{steps_of, prices_after, prices_of, last_round, phase_of}
use Rattle.two_way.specs.Floated.{AreEnded, AreFloatedBy, IsEfficient}
use Rattle.two_way.specs.declared.floating.FloatFault.{FloatFault}
use Rattle.two_way.specs.declared.floating.FloatFault.TheVariants.{NotSubstitutes, NoMemory}

-- the reports of the first so many rounds of a clock: each round is reported at the prices to which those before it lead, by its members
-- in order
unfoldable pub float_reports : Terms → ℕ → List ℕ → (ℕ → List ℕ → ℤ) → ℕ → List Report
float_reports terms number start u zero = []
float_reports terms number start u (suc n) =
    let before = float_reports terms number start u n in
    before ++ round_reports terms u (suc n) (prices_after (record { terms = terms; number = number; start = start; reports = before }) n) (members terms.bidders number)

-- the whole history of a clock that was floated
pub record IsFloatHistory (u : ℕ → List ℕ → ℤ) (h : TwoWayHistory) : Type 0 where
  -- its reports are those of all rounds
  pub reports_are : h.reports ≡ float_reports h.terms h.number h.start u (last_round h)
  -- and it has ended
  pub ended : phase_of h ≡ Ended

-- the clock of this number, whole
pub record IsFloatOf (terms : Terms) (u : ℕ → List ℕ → ℤ) (start : List ℕ) (number : ℕ) (h : TwoWayHistory) : Type 0 where
  -- the terms, the start and the number are these
  pub terms_are : h.terms ≡ terms
  pub start_is : h.start ≡ start
  pub number_is : h.number ≡ number
  -- the history is whole
  pub whole : IsFloatHistory u h

-- all clocks, in the order of their numbers
pub record AreWhole (terms : Terms) (u : ℕ → List ℕ → ℤ) (start : List ℕ) (clocks : List TwoWayHistory) : Type 0 where
  -- they are the clocks of the auction, and have ended
  pub ended : AreEnded terms start clocks
  -- each history is whole
  pub told : AllByRecursion (IsFloatHistory u) clocks

-- What the valuations float to from the start prices: all clocks of the auction, each told by the valuations alone until it has ended, and
-- what these settle, which is efficient.
pub record IsFloat (terms : Terms) (u : ℕ → List ℕ → ℤ) (start : List ℕ) (clocks : List TwoWayHistory) (prices : List ℕ) (rows : List AwardRow) (choices : List (List (List ℕ))) : Type 0 where
  -- the clocks of the auction, from these prices to their ends
  pub ended : AreEnded terms start clocks
  -- each told by the valuations alone
  pub told : AllByRecursion (IsFloatHistory u) clocks
  -- what they settle
  pub floated : AreFloatedBy clocks prices rows choices
  -- which is an equilibrium
  pub efficient : IsEfficient u terms prices rows
  -- of bidders for whom the goods are strong substitutes
  pub substitutes : AllStrongSubstitutes terms.goods u (all_bidders terms.bidders)

-- why there is no float; out of memory says nothing of the valuations
abbrev pub IsRefusal : Terms → (ℕ → List ℕ → ℤ) → FloatFault → Type 0
IsRefusal terms u (NotSubstitutes bidder x y good) = IsFirstWithout terms u bidder x y good
IsRefusal terms u NoMemory = Unit {0}

-- all rounds before the present one were reported, and nothing of the present one
abbrev pub IsFresh : (ℕ → List ℕ → ℤ) → TwoWayHistory → Type 0
IsFresh u h = h.reports ≡ float_reports h.terms h.number h.start u (steps_of h)

-- the history with the reports of the present round by its members with numbers up to this one, and by all of them
abbrev pub round_told_to : (ℕ → List ℕ → ℤ) → ℕ → TwoWayHistory → TwoWayHistory
round_told_to u last h = record h { reports = h.reports ++ round_reports h.terms u (last_round h) (prices_of h) (members last h.number) }

abbrev pub round_told : (ℕ → List ℕ → ℤ) → TwoWayHistory → TwoWayHistory
round_told u h = round_told_to u h.terms.bidders h

-- whether the clock is running
abbrev pub is_running : TwoWayHistory → Bool
is_running h = runs (phase_of h)

-- where a round that was told has led: it was the last one, or the next one began
pub record HasTurned (before after : TwoWayHistory) : Type 0 where
  -- the clock has ended or halted there
  pub stays : is_running after ≡ false → steps_of after ≡ steps_of before
  -- or runs on, a step further
  pub goes : is_running after ≡ true → steps_of after ≡ steps_of before + 1
