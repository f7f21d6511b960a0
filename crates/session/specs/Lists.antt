-- A hall of clocks in a list.
use Rattle.std.specs.Prelude.{◌≡◌, ◌<◌, ◌+◌, ◌-◌, ℕ, List, [], ◌∷◌, length, slice_get, slice_set, Some, ◌⊎◌}
use Rattle.lot_base.specs.declared.auction_terms.Terms.{Terms}
use Rattle.demand_set.specs.declared.reports.Report.{Report}
use Rattle.clock.specs.Reports.{ClockOf, applied}
use Rattle.clock.specs.Standing.{last_round, phase_of, prices_of}
use Rattle.clock.specs.Judging.{judgement_of}
use Rattle.clock.specs.declared.clocks.Look.{Look}
use Rattle.clock.specs.declared.judging.Judgement.{Judgement}
use Rattle.clock.specs.declared.judging.Judgement.TheVariants.{Take, Again, NotMember, Early, Conflict, Over, NoRound}
use Rattle.clock.specs.declared.judging.Offered.{Offered}
use Rattle.clock.specs.declared.judging.Offered.TheVariants as offered
use Rattle.session.specs.declared.halls.Asked.{Asked}
use Rattle.session.specs.declared.halls.Asked.TheVariants as asked

abbrev pub supply_in : List ClockOf → List ℕ
supply_in [] = []
supply_in (c ∷ cs) = c.history.terms.goods

-- the clocks are numbered from 0 on, and are of one supply and so many bidders
pub record IsClockAt (supply : List ℕ) (bidders k : ℕ) (c : ClockOf) : Type 0 where
  pub number : c.history.number ≡ k
  pub goods : c.history.terms.goods ≡ supply
  pub bidders_are : c.history.terms.bidders ≡ bidders

pub record AreClocks (clocks : List ClockOf) : Type 0 where
  pub some : 0 < length clocks
  pub each : (k : ℕ) (c : ClockOf) → slice_get clocks k ≡ Some c → IsClockAt (supply_in clocks) (length clocks - 1) k c

-- clocks of these terms without reports, numbered from a number on
abbrev pub AreOpened : Terms → ℕ → List ClockOf → Type 0
AreOpened terms from [] = Unit {0}
AreOpened terms from (c ∷ cs) = (c.history ≡ record { terms = terms; number = from; reports = [] }) × AreOpened terms (from + 1) cs

pub record Shows (c : ClockOf) (look : Look) : Type 0 where
  pub round : look.round ≡ last_round c.history
  pub phase : look.phase ≡ phase_of c.history
  pub prices : look.prices ≡ prices_of c.history

-- what becomes of an offer to a clock by its judgement
abbrev pub IsAnswer : {C : Type 0} → Judgement → Offered → C → C → C → Type 0
IsAnswer Take answer before taken after = ((answer ≡ offered.Taken) × (after ≡ taken)) ⊎ ((answer ≡ offered.NoMemory) × (after ≡ before))
IsAnswer Again answer before taken after = (answer ≡ offered.Again) × (after ≡ before)
IsAnswer NotMember answer before taken after = (answer ≡ offered.Refused NotMember) × (after ≡ before)
IsAnswer (Early round) answer before taken after = (answer ≡ offered.Refused (Early round)) × (after ≡ before)
IsAnswer (Conflict round) answer before taken after = (answer ≡ offered.Refused (Conflict round)) × (after ≡ before)
IsAnswer (Over round) answer before taken after = (answer ≡ offered.Refused (Over round)) × (after ≡ before)
IsAnswer NoRound answer before taken after = (answer ≡ offered.Refused NoRound) × (after ≡ before)

abbrev pub IsOffer : ClockOf → Report → Offered → ClockOf → Type 0
IsOffer before r answer after = IsAnswer (judgement_of before.history r) answer before (applied before r) after

-- the clock was shown and all clocks stay, or one clock was offered the report and the others stay
abbrev pub Allows : List ClockOf → Asked → List ClockOf → Type 0
Allows before (asked.Look clock look) after = (c : ClockOf) × (slice_get before clock ≡ Some c) × Shows c look × (after ≡ before)
Allows before (asked.Offer clock bidder round demand answer) after =
    (c : ClockOf) × (d : ClockOf) × (slice_get before clock ≡ Some c) × (after ≡ slice_set before clock d)
    × IsOffer c (record { bidder = bidder; round = round; demand = demand }) answer d
