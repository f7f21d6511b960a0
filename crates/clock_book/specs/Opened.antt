-- How a book is opened on a disk.
use Rattle.std.specs.Prelude.{◌≡◌, ◌⊎◌, ◌≤◌, ℕ, ◌+◌, false, IsTrue, List, length, map, take, None, Result, Ok, Err}
use Rattle.house_io.specs.Disks.{DiskShown, is_told, told_moments, IfDiskTells, IfDiskTold, HasTold, IsLater}
use Rattle.demand_set.specs.declared.reports.Report.{Report}
use Rattle.house_io.specs.Moments.{Moments, AtEach, synced_at}
use Rattle.clock.specs.Reports.{ClockHistory, ClockOf, most_reports}
use Rattle.report_journal.specs.Format.{front}
use Rattle.report_journal.specs.Journals.{JournalOf, payloads_at}
use Rattle.report_journal.specs.Scans.{IsScan, IsInOrder, places_in}
use Rattle.report_journal.specs.declared.faults.JournalFault.{JournalFault}
use Rattle.report_journal.specs.declared.faults.JournalFault.TheVariants as journal
use Rattle.report_journal.specs.declared.scanning.Scanned.{Scanned}
use Rattle.recovery.specs.Entries.{payload_of, AreReportsOf}
use Rattle.recovery.specs.Journaled.{Owner, contents_of}
use Rattle.recovery.specs.Streams.{IsWhole}
use Rattle.clock_book.specs.declared.entries.Entry.TheVariants.{Offered}
use Rattle.clock_book.specs.declared.origins.Origin.{Origin}
use Rattle.clock_book.specs.declared.faults.OpenFault.{OpenFault}
use Rattle.clock_book.specs.declared.faults.OpenFault.TheVariants as why
use Rattle.clock_book.specs.Opening.{IsHistoryOf, IsOpening, ReadsClock, CountsFaults}
use Rattle.clock_book.specs.DeskHistories.{NotedOf}
use Rattle.clock_book.specs.Past.{IsAsOpened}
use Rattle.clock_book.specs.Books.{BookOf, quantities_in, most_quantities}

-- What was found of a file of which no record is broken: the scan of it, and its reports. What is said of the file is said where the
-- disk tells.
pub record IsFound (told : Type 0) (owner : Owner) (reports : List Report) (scan : Scanned) (file : List ℕ) : Type 0 where
  pub in_order : IsInOrder scan
  pub whole : IsWhole owner scan reports
  pub are : AreReportsOf owner.terms reports
  pub scan_is : told → IsScan scan file
  pub payloads : told → payloads_at file (take (length reports) (places_in scan)) ≡ map (payload_of (length owner.terms.goods)) reports

-- the same of the file of a disk that shows this
abbrev pub IsFoundOn : DiskShown → Owner → List Report → Scanned → Type 0
IsFoundOn disk owner reports scan = IsFound (IsTrue (is_told disk)) owner reports scan (told_moments disk).now.read

-- what a reading with the scan answers
abbrev pub ReadsBook : Owner → List ℕ → Result (ClockOf × Scanned) OpenFault → Type 0
ReadsBook owner file (Ok found) = IsOpening owner file (Ok found.0.history)
ReadsBook owner file (Err fault) = ReadsClock owner file (Err fault)

-- a clock that took reports from its room
pub record KeepsRoom (old new : ClockOf) : Type 0 where
  pub reports : old.spare_reports ≤ length new.history.reports + new.spare_reports
  pub quantities : old.spare_quantities ≤ quantities_in new.history.reports + new.spare_quantities

-- The same of a clock with the history of its desk: each report is noted as offered, and there is room for the most.
pub record IsNotedAs (told : Type 0) (owner : Owner) (n : NotedOf) (scan : Scanned) (file : List ℕ) : Type 0 where
  pub history : IsHistoryOf owner n.clock
  pub offered : n.history ≡ map Offered n.clock.reports
  pub reports : most_reports owner.terms owner.clock ≤ length n.clock.reports + n.spare_reports
  pub quantities : most_quantities owner.terms owner.clock ≤ quantities_in n.clock.reports + n.spare_quantities
  pub found : IsFound told owner n.clock.reports scan file

-- the same of the file of a disk that shows this
abbrev pub IsNotedOn : DiskShown → Owner → NotedOf → Scanned → Type 0
IsNotedOn disk owner n scan = IsNotedAs (IsTrue (is_told disk)) owner n scan (told_moments disk).now.read

abbrev pub ReadsNoted : Owner → List ℕ → Result (NotedOf × Scanned) OpenFault → Type 0
ReadsNoted owner file (Ok found) = IsOpening owner file (Ok found.0.clock)
ReadsNoted owner file (Err fault) = ReadsClock owner file (Err fault)

-- the journal of these reports on a disk that was scanned: an unformed file was formed, and any other was left as it was
pub record IsLaid {D : Type 0} (shown : D → DiskShown) (owner : Owner) (reports : List Report) (old : D) (j : JournalOf D) : Type 0 where
  pub contents : IfDiskTells (shown j.disk) (λ _. j.contents ≡ contents_of owner reports)
  pub end : j.end ≡ length (front (contents_of owner reports))
  pub pending : j.pending ≡ None
  pub later : IsLater (shown old) (shown j.disk)
  pub steady : (shown j.disk).faults ≡ (shown old).faults
  pub leaves : IfDiskTold (shown old) (shown j.disk) (λ before after. AtEach (IsAsOpened owner before.now.read) before after)

-- a fault of the disk, or out of memory
abbrev pub IsFromOutside : OpenFault → Type 0
IsFromOutside why.DiskFault = Unit {0}
IsFromOutside why.NoMemory = Unit {0}
IsFromOutside fault = ⊥

-- a refusal to form a journal, as one to open a book
abbrev pub not_formed : JournalFault → OpenFault
not_formed journal.DiskFault = why.DiskFault
not_formed journal.NoMemory = why.NoMemory
not_formed journal.NotMended = why.NoMemory
not_formed (journal.Full needed) = why.NoMemory

-- a disk that was scanned, on which no book was begun
pub record IsNotBegun {D : Type 0} (shown : D → DiskShown) (owner : Owner) (old new : D) (fault : OpenFault) : Type 0 where
  pub counts : CountsFaults {T = ℕ} (shown old).faults (shown new).faults (Err fault)
  pub outside : IsFromOutside fault
  pub later : IsLater (shown old) (shown new)
  pub leaves : IfDiskTold (shown old) (shown new) (λ before after. AtEach (IsAsOpened owner before.now.read) before after)

-- the origin is that of this owner, and of so many reports at opening
pub record IsOf (owner : Owner) (reports : ℕ) (origin : Origin) : Type 0 where
  pub terms_are : origin.terms ≡ owner.terms
  pub clock_is : origin.clock ≡ owner.clock
  pub digest_is : origin.digest ≡ owner.digest
  pub reports_are : origin.reports ≡ reports

-- What a crash at any moment of an opening leaves from its sync on: the file as it was read then, or, where it was unformed, an
-- unformed one or one of no reports. The origin keeps what was read, and both moments.
pub record OpenLeaves (owner : Owner) (synced answered : Moments) (origin : Origin) : Type 0 where
  pub each : AtEach (IsAsOpened owner origin.read) synced answered
  pub read_is : origin.read ≡ synced.now.read
  pub synced_is : origin.synced ≡ length synced.past
  pub answered_is : origin.answered ≡ length answered.past

-- a book that was begun on a disk that was scanned: it has the reports that were found, each noted as offered, and no mark
pub record Begins {D : Type 0} (shown : D → DiskShown) (owner : Owner) (c : ClockHistory) (old : D) (b : BookOf D) : Type 0 where
  pub state : b.state ≡ record { clock = c; history = map Offered c.reports; pending = None }
  pub origin : IsOf owner (length c.reports) b.origin
  pub later : IsLater (shown old) (shown b.disk)
  pub told_is : b.origin.told ≡ is_told (shown b.disk)
  pub steady : (shown b.disk).faults ≡ (shown old).faults
  pub leaves : IfDiskTold (shown old) (shown b.disk) (λ before after. OpenLeaves owner before after b.origin)

-- A book that was opened, on a disk that was claimed first. Its history is legal, each of its reports is noted as offered, and there is
-- no mark. Where the disk tells, its reports are those of the file as it was read at the sync that followed the claim.
pub record Opens {D : Type 0} (shown : D → DiskShown) (owner : Owner) (old : D) (b : BookOf D) : Type 0 where
  pub history : IsHistoryOf owner b.state.clock
  pub state : b.state ≡ record { clock = b.state.clock; history = map Offered b.state.clock.reports; pending = None }
  pub read : IfDiskTold (shown old) (shown b.disk) (λ before _. IsOpening owner before.now.read (Ok b.state.clock))
  pub origin : IsOf owner (length b.state.clock.reports) b.origin
  pub told : HasTold (shown old) (shown b.disk)
  pub claimed : IsTrue (shown b.disk).claimed
  pub told_is : b.origin.told ≡ is_told (shown b.disk)
  pub steady : (shown b.disk).faults ≡ (shown old).faults
  pub leaves : IfDiskTold (shown old) (shown b.disk) (λ before after. OpenLeaves owner (synced_at before) after b.origin)

-- a disk that is not claimed was left as it was
abbrev pub IsLeftUnlessClaimed : DiskShown → DiskShown → Type 0
IsLeftUnlessClaimed before after = after.claimed ≡ false → IfDiskTold before after (λ was now. now ≡ was)

-- what a crash at any moment of an opening that was refused leaves from its sync on, if there was one
abbrev pub LeftUnopened : Owner → Moments → Moments → Type 0
LeftUnopened owner old new = (new ≡ old) ⊎ AtEach (IsAsOpened owner old.now.read) (synced_at old) new

-- a disk on which no book was opened, and why
pub record IsUnopened {D : Type 0} (shown : D → DiskShown) (owner : Owner) (old new : D) (fault : OpenFault) : Type 0 where
  pub refused : IfDiskTold (shown old) (shown new) (λ before _. ReadsClock owner before.now.read (Err fault))
  pub counts : CountsFaults {T = ℕ} (shown old).faults (shown new).faults (Err fault)
  pub told : HasTold (shown old) (shown new)
  pub leaves : IfDiskTold (shown old) (shown new) (LeftUnopened owner)
  pub unclaimed : IsLeftUnlessClaimed (shown old) (shown new)
