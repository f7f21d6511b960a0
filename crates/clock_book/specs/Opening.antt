-- What clock a journal's file stands for, and why it stands for none.
use Rattle.std.specs.Prelude.{◌≡◌, ◌≢◌, ◌≤◌, ℕ, ◌+◌, List, [], ◌∷◌, ◌++◌, length, Result, Ok, Err}
use Rattle.demand_set.specs.declared.reports.Report.{Report}
use Rattle.house_io.specs.Faults.{Rose}
use Rattle.house_io.specs.Moments.{Moments, synced_at}
use Rattle.clock.specs.Reports.{ClockHistory, ClockOf}
use Rattle.clock.specs.Judging.{IsLegal, judgement_of}
use Rattle.clock.specs.declared.judging.Judgement.{Judgement}
use Rattle.clock.specs.declared.judging.Judgement.TheVariants.{Take}
use Rattle.report_journal.specs.Puts.{IsSynced}
use Rattle.recovery.specs.declared.faults.Broken.{Broken}
use Rattle.recovery.specs.declared.faults.RecoverFault.{RecoverFault}
use Rattle.recovery.specs.declared.faults.RecoverFault.TheVariants as recover
use Rattle.recovery.specs.Journaled.{Owner, IsReadAs, BeginsWithReports}
use Rattle.recovery.specs.Causes.{IsBroken}
use Rattle.clock_book.specs.declared.faults.OpenFault.{OpenFault}
use Rattle.clock_book.specs.declared.faults.OpenFault.TheVariants as why

-- the owner's clock with these reports
abbrev pub history_of : Owner → List Report → ClockHistory
history_of owner reports = record { terms = owner.terms; number = owner.clock; reports = reports }

-- a legal history of the owner's clock
pub record IsHistoryOf (owner : Owner) (c : ClockHistory) : Type 0 where
  pub is : c ≡ history_of owner c.reports
  pub legal : IsLegal c

-- the file is unformed or stands for this legal history of the owner's clock
pub record StandsForHistory (owner : Owner) (c : ClockHistory) (file : List ℕ) : Type 0 where
  pub history : IsHistoryOf owner c
  pub read : IsReadAs owner c.reports file

-- A record of the file is broken, and the reports before it are a legal history.
pub record BreaksOff (owner : Owner) (broken : Broken) (file : List ℕ) : Type 0 where
  pub reports : List Report
  pub legal : IsLegal (history_of owner reports)
  pub broken_is : IsBroken owner reports broken file

-- The file begins with the reports of a legal history, and the report of the record with this number after them is not taken.
pub record IsNotAcceptable (owner : Owner) (number : ℕ) (judgement : Judgement) (file : List ℕ) : Type 0 where
  pub before : List Report
  pub report : Report
  pub begins : BeginsWithReports owner (before ++ report ∷ []) file
  pub number_is : number ≡ length before + 1
  pub legal : IsLegal (history_of owner before)
  pub judged : judgement ≡ judgement_of (history_of owner before) report
  pub refused : judgement ≢ Take

-- what a file is read as, but for a fault of the disk and for memory that ran out
abbrev pub IsOpening : Owner → List ℕ → Result ClockHistory OpenFault → Type 0
IsOpening owner file (Ok c) = StandsForHistory owner c file
IsOpening owner file (Err (why.Broken broken)) = BreaksOff owner broken file
IsOpening owner file (Err (why.NotAcceptable number judgement)) = IsNotAcceptable owner number judgement file
IsOpening owner file (Err why.DiskFault) = ⊥
IsOpening owner file (Err why.NoMemory) = ⊥

-- what a reading answers
abbrev pub ReadsClock : Owner → List ℕ → Result ClockOf OpenFault → Type 0
ReadsClock owner file (Ok c) = IsOpening owner file (Ok c.history)
ReadsClock owner file (Err (why.Broken broken)) = IsOpening owner file (Err (why.Broken broken))
ReadsClock owner file (Err (why.NotAcceptable number judgement)) = IsOpening owner file (Err (why.NotAcceptable number judgement))
ReadsClock owner file (Err why.DiskFault) = Unit {0}
ReadsClock owner file (Err why.NoMemory) = Unit {0}

-- what became of the report of this record
abbrev pub Takes : ClockHistory → Report → ℕ → OpenFault → Type 0
Takes c r number (why.NotAcceptable found judgement) = (found ≡ number) × (judgement ≡ judgement_of c r) × (judgement ≢ Take)
Takes c r number why.NoMemory = Unit {0}
Takes c r number fault = ⊥

abbrev pub fault_of : RecoverFault → OpenFault
fault_of recover.DiskFault = why.DiskFault
fault_of recover.NoMemory = why.NoMemory

-- The count of a disk's faults over a call: DiskFault comes only where it rose, and with any other answer it is as before.
abbrev pub CountsFaults : {T : Type 0} → ℕ → ℕ → Result T OpenFault → Type 0
CountsFaults before now (Ok answer) = now ≡ before
CountsFaults before now (Err why.DiskFault) = (before ≤ now) × Rose before now
CountsFaults before now (Err fault) = now ≡ before

-- the good sync with which a reading begins: but for a fault of the disk and for memory that ran out it was done
abbrev pub IsSyncedBy : {T : Type 0} → Result T OpenFault → Moments → Moments → Type 0
IsSyncedBy (Err why.DiskFault) old new = IsSynced old new
IsSyncedBy (Err why.NoMemory) old new = IsSynced old new
IsSyncedBy answer old new = new ≡ synced_at old
