-- What becomes of a report, in the standing of the reports before it.
use Rattle.std.specs.Prelude.{◌≡◌, ◌≢◌, ◌≤◌, ◌<◌, ℕ, ◌==◌, nat_le, Bool, true, false, not, ◌&&◌, if◌then◌else◌, List, [], ◌∷◌, Option, Some, None}
use Rattle.std.specs.List.{AllByRecursion}
use Rattle.lot_base.specs.Demands.{IsDemand}
use Rattle.lot_base.specs.declared.phases.Phase.{Phase}
use Rattle.lot_base.specs.declared.phases.Phase.TheVariants.{Running, Ended, Halted}
use Rattle.demand_set.specs.declared.reports.Report.{Report}
use Rattle.demand_set.specs.Same.{same_demand}
use Rattle.clock.specs.declared.judging.Judgement.{Judgement}
use Rattle.clock.specs.declared.judging.Judgement.TheVariants.{Take, Again, NotMember, Early, Conflict, Over, NoRound}
use Rattle.clock.specs.Reports.{ClockHistory, with_report, demand_in}
use Rattle.clock.specs.Standing.{phase_of, last_round}

-- the bidder is a member of the clock
pub record IsMember (c : ClockHistory) (bidder : ℕ) : Type 0 where
  pub from_one : 1 ≤ bidder
  pub to_last : bidder ≤ c.terms.bidders
  pub other : bidder ≢ c.number

-- the report is of a member, in a round up to the last or current one
pub record IsInRound (c : ClockHistory) (r : Report) : Type 0 where
  pub member : IsMember c r.bidder
  pub from_one : 1 ≤ r.round
  pub to_last : r.round ≤ last_round c

-- the report is of a member, in a round after the last or current one
pub record IsBeyond (c : ClockHistory) (r : Report) (last : ℕ) : Type 0 where
  pub member : IsMember c r.bidder
  pub last_is : last ≡ last_round c
  pub beyond : last < r.round

-- each judgement, and when it comes
abbrev pub IsJudgement : ClockHistory → Report → Judgement → Type 0
IsJudgement c r NotMember = IsMember c r.bidder → ⊥
IsJudgement c r NoRound = IsMember c r.bidder × (r.round ≡ 0)
IsJudgement c r Again = IsInRound c r × (demand_in c.reports r.round r.bidder ≡ Some r.demand)
IsJudgement c r (Conflict round) =
    IsInRound c r × (round ≡ r.round) × ((other : List (List ℕ)) × (other ≢ r.demand) × (demand_in c.reports r.round r.bidder ≡ Some other))
IsJudgement c r (Early last) = IsBeyond c r last × (phase_of c ≡ Running)
IsJudgement c r (Over last) = IsBeyond c r last × (phase_of c ≢ Running)
IsJudgement c r Take = IsInRound c r × (demand_in c.reports r.round r.bidder ≡ None)

-- The same as a function.
abbrev pub late_by : Phase → ℕ → Judgement
late_by Running round = Early round
late_by Ended round = Over round
late_by (Halted k) round = Over round

abbrev pub repeated : Bool → ℕ → Judgement
repeated true round = Again
repeated false round = Conflict round

abbrev pub repeat_of : ℕ → List (List ℕ) → Option (List (List ℕ)) → Judgement
repeat_of round demand None = Take
repeat_of round demand (Some before) = repeated (same_demand before demand) round

abbrev pub is_member : ClockHistory → ℕ → Bool
is_member c bidder = nat_le 1 bidder && (nat_le bidder c.terms.bidders && not (bidder == c.number))

abbrev pub judged : ClockHistory → ℕ → Phase → Report → Judgement
judged c last phase r =
    if is_member c r.bidder
    then (if r.round == 0 then NoRound
    else if nat_le r.round last then repeat_of r.round r.demand (demand_in c.reports r.round r.bidder)
    else late_by phase last)
    else NotMember

abbrev pub judgement_of : ClockHistory → Report → Judgement
judgement_of c r = judged c (last_round c) (phase_of c) r

-- Each report of a legal history is judged Take in the standing of those before it, and its demand is one of the supply; the
-- clock's number is that of a bidder, or 0.
abbrev pub TakesAll : ClockHistory → List Report → Type 0
TakesAll c [] = Unit {0}
TakesAll c (r ∷ more) = (judgement_of c r ≡ Take) × TakesAll (with_report c r) more

pub record IsLegal (c : ClockHistory) : Type 0 where
  pub number : c.number ≤ c.terms.bidders
  pub demands : AllByRecursion (λ (r : Report). IsDemand c.terms.goods r.demand) c.reports
  pub takes : TakesAll (record c { reports = [] }) c.reports
