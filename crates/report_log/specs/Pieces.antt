-- A log that is read piece by piece: what lies at the front of bytes, and what was made of those that were read so far.
use Rattle.std.specs.Prelude.{◌≡◌, ◌<◌, ◌+◌, ℕ, List, ◌++◌, length, Option, Some, None}
use Rattle.lot_base.specs.Demands.{IsDemand}
use Rattle.lot_base.specs.declared.auction_terms.Terms.{Terms}
use Rattle.lot_base.specs.declared.limits.TheConstants.{GREATEST_PAYLOAD}
use Rattle.demand_set.specs.declared.reports.Report.{Report}
use Rattle.recovery.specs.Entries.{Spells}
use Rattle.clock.specs.Reports.{ClockHistory, with_report}
use Rattle.clock.specs.Judging.{judgement_of}
use Rattle.clock.specs.declared.judging.Judgement.TheVariants.{Take}
use Rattle.report_log.specs.Logs.{IsFaultyAt, IsLogOf, entry_of}
use Rattle.report_log.specs.declared.entries.Front.{Front}
use Rattle.report_log.specs.declared.entries.Front.TheVariants as front
use Rattle.report_log.specs.declared.entries.Stop.{Stop}
use Rattle.report_log.specs.declared.entries.Stop.TheVariants as stop

-- the bytes begin with the entry of this report, which is judged Take after a history
pub record IsEntry (terms : Terms) (c : ClockHistory) (bytes : List ℕ) (r : Report) (rest : List ℕ) : Type 0 where
  pub demand : IsDemand terms.goods r.demand
  pub take : judgement_of c r ≡ Take
  pub whole : bytes ≡ entry_of (length terms.goods) r ++ rest
  pub shorter : length rest < length bytes

-- they begin with no such entry
abbrev pub HasNoEntry : Terms → ClockHistory → List ℕ → Type 0
HasNoEntry terms c bytes = (r : Report) (rest : List ℕ) → IsDemand terms.goods r.demand → judgement_of c r ≡ Take → bytes ≡ entry_of (length terms.goods) r ++ rest → ⊥

-- nor do they whatever follows
pub record IsFaulty (terms : Terms) (c : ClockHistory) (bytes : List ℕ) : Type 0 where
  pub some : 0 < length bytes
  pub no_entry : (more : List ℕ) → HasNoEntry terms c (bytes ++ more)

-- they are shorter than the longest entry, and begin with none
pub record IsUnfinished (terms : Terms) (c : ClockHistory) (bytes : List ℕ) : Type 0 where
  pub short : length bytes < 4 + GREATEST_PAYLOAD
  pub no_entry : HasNoEntry terms c bytes

-- a payload spells a report that is judged Take after a history; this is the history with it
pub record Takes (terms : Terms) (c new : ClockHistory) (payload : List ℕ) : Type 0 where
  pub report : Report
  pub spells : Spells terms payload report
  pub take : judgement_of c report ≡ Take
  pub new_is : new ≡ with_report c report

-- it spells no such report, and the history is as it was
pub record TakesNone (terms : Terms) (c new : ClockHistory) (payload : List ℕ) : Type 0 where
  pub none : (r : Report) → Spells terms payload r → judgement_of c r ≡ Take → ⊥
  pub same : new ≡ c

-- they begin with the entry of a report that is taken, and then come these bytes
pub record TakesEntry (terms : Terms) (c new : ClockHistory) (bytes rest : List ℕ) : Type 0 where
  pub report : Report
  pub entry : IsEntry terms c bytes report rest
  pub new_is : new ≡ with_report c report

abbrev pub IsFront : Terms → ClockHistory → ClockHistory → List ℕ → Front → Type 0
IsFront terms c new bytes (front.Entry rest) = TakesEntry terms c new bytes rest.now
IsFront terms c new bytes front.Unfinished = IsUnfinished terms c bytes × (new ≡ c)
IsFront terms c new bytes front.Faulty = IsFaulty terms c bytes × (new ≡ c)

-- how many bytes are left
abbrev pub left_of : Stop → ℕ
left_of (stop.Unfinished left) = left
left_of (stop.Faulty left) = left

-- what these are
abbrev pub StopsAt : Terms → ClockHistory → List ℕ → Stop → Type 0
StopsAt terms c rest (stop.Unfinished left) = IsUnfinished terms c rest
StopsAt terms c rest (stop.Faulty left) = IsFaulty terms c rest

-- all bytes so far are a log of this history, and then these
pub record IsUpTo (terms : Terms) (c : ClockHistory) (all rest : List ℕ) : Type 0 where
  pub before : List ℕ
  pub log : IsLogOf terms c before
  pub all_are : all ≡ before ++ rest

pub record IsReadTo (terms : Terms) (c : ClockHistory) (all rest : List ℕ) : Type 0 where
  pub up_to : IsUpTo terms c all rest
  pub no_entry : HasNoEntry terms c rest

-- What was made of all bytes so far: they are a log and then these, which begin with no entry; or the first faulty entry is at a
-- place among them, whatever follows.
abbrev pub HasRead : Terms → ClockHistory → Option ℕ → List ℕ → List ℕ → Type 0
HasRead terms c None all rest = IsReadTo terms c all rest
HasRead terms c (Some place) all rest = (more : List ℕ) → IsFaultyAt terms (all ++ more) place
