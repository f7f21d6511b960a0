-- Why a list of reports gives no clock: the first report that is not taken.
use Rattle.std.specs.Prelude.{◌≡◌, ◌≢◌, ◌+◌, ◌-◌, ◌^◌, min, ℕ, List, ◌∷◌, ◌++◌, length}
use Rattle.demand_set.specs.declared.reports.Report.{Report}
use Rattle.clock.specs.declared.judging.Judgement.{Judgement}
use Rattle.clock.specs.declared.judging.Judgement.TheVariants.{Take}
use Rattle.clock.specs.declared.replaying.ReplayFault.{ReplayFault}
use Rattle.clock.specs.declared.replaying.ReplayFault.TheVariants.{NotTaken, NoMemory}
use Rattle.clock.specs.Reports.{ClockHistory}
use Rattle.clock.specs.Judging.{judgement_of, TakesAll}

-- the report with this number, from 1, which stands still at the end of 32 bits, is judged so after those before it, which are all taken, and it is not taken
pub record IsFirstNotTaken (c : ClockHistory) (reports : List Report) (number : ℕ) (judgement : Judgement) : Type 0 where
  pub before : List Report
  pub report : Report
  pub after : List Report
  pub all : reports ≡ before ++ report ∷ after
  pub number_is : number ≡ min (length before + 1) (2 ^ 32 - 1)
  pub taken : TakesAll c before
  pub judged : judgement ≡ judgement_of (record c { reports = c.reports ++ before }) report
  pub refused : judgement ≢ Take

-- out of memory says nothing of the reports
abbrev pub IfNotTaken : ClockHistory → List Report → ReplayFault → Type 0
IfNotTaken c reports (NotTaken number judgement) = IsFirstNotTaken c reports number judgement
IfNotTaken c reports NoMemory = Unit {0}
