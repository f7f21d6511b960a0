-- Where a journal's reports break off: the first broken record, and why it is broken.
use Rattle.std.specs.Prelude.{◌≡◌, ◌≢◌, ◌⊎◌, ℕ, ◌+◌, List, [], length, take, slice_get, Option, Some, None, MatchOption}
use Rattle.report_journal.specs.declared.headers.Header.{Header}
use Rattle.report_journal.specs.Format.{IsDamaged, HasNoHeader}
use Rattle.report_journal.specs.Fronts.{HasHeader}
use Rattle.report_journal.specs.Puts.{with_one_more}
use Rattle.report_journal.specs.declared.scanning.Scanned.{Scanned}
use Rattle.report_journal.specs.declared.scanning.Scanned.TheVariants as scanned
use Rattle.demand_set.specs.declared.reports.Report.{Report}
use Rattle.recovery.specs.declared.faults.JournalCause.{JournalCause}
use Rattle.recovery.specs.declared.faults.JournalCause.TheVariants as cause
use Rattle.recovery.specs.declared.faults.Broken.{Broken}
use Rattle.recovery.specs.Entries.{SpellsNone, AreReportsOf}
use Rattle.recovery.specs.Journaled.{Owner, header_of, contents_of, BeginsWith, IsReadAs}

-- the first place at which two lists differ, or at which there is an element of one alone
pub record IsFirstOther (xs ys : List ℕ) (place : ℕ) : Type 0 where
  pub before : take place xs ≡ take place ys
  pub here : slice_get xs place ≢ slice_get ys place

-- Why a header is not the owner's: another clock, or else another auction, or else another version, or else other opening prices.
abbrev pub IsHeaderCause : Owner → Header → JournalCause → Type 0
IsHeaderCause owner header (cause.OtherClock found) = (found ≡ header.clock) × (found ≢ owner.clock)
IsHeaderCause owner header (cause.OtherAuction found) = (header.clock ≡ owner.clock) × (found ≡ header.digest) × (found ≢ owner.digest)
IsHeaderCause owner header (cause.OtherVersion found) =
    (header.clock ≡ owner.clock) × (header.digest ≡ owner.digest) × (found ≡ header.version) × (found ≢ owner.terms.version)
IsHeaderCause owner header (cause.OtherOpening good) =
    (header.clock ≡ owner.clock) × (header.digest ≡ owner.digest) × (header.version ≡ owner.terms.version)
    × MatchOption header.opening ⊥ (λ opening. IsFirstOther opening owner.terms.opening good)
IsHeaderCause owner header cause.Damaged = ⊥
IsHeaderCause owner header cause.NotReport = ⊥

abbrev pub IfHeaderCause : Owner → Header → Option JournalCause → Type 0
IfHeaderCause owner header None = header ≡ header_of owner
IfHeaderCause owner header (Some why) = IsHeaderCause owner header why

-- the file has another header than the owner's
pub record HasOtherHeader (owner : Owner) (why : JournalCause) (file : List ℕ) : Type 0 where
  pub header : Header
  pub has : HasHeader header file
  pub cause_is : IsHeaderCause owner header why

-- the header is broken: there is none, or it is another one
abbrev pub IsBrokenHeader : Owner → JournalCause → List ℕ → Type 0
IsBrokenHeader owner cause.Damaged file = HasNoHeader file
IsBrokenHeader owner why file = HasOtherHeader owner why file

-- after these reports stands a record whose payload is that of no report
pub record HasNoReport (owner : Owner) (reports : List Report) (file : List ℕ) : Type 0 where
  pub payload : List ℕ
  pub begins : BeginsWith (with_one_more (contents_of owner reports) payload) file
  pub none : SpellsNone owner.terms payload

-- the record after these reports is broken: it is damaged, or its payload is that of no report
abbrev pub IsBrokenRecord : Owner → List Report → JournalCause → List ℕ → Type 0
IsBrokenRecord owner reports cause.Damaged file = IsDamaged (contents_of owner reports) file
IsBrokenRecord owner reports cause.NotReport file = HasNoReport owner reports file
IsBrokenRecord owner reports why file = ⊥

-- the first broken record of the file, after these reports; the header is record 0
abbrev pub IsBroken : Owner → List Report → Broken → List ℕ → Type 0
IsBroken owner reports broken file =
    ((broken.number ≡ 0) × (reports ≡ []) × IsBrokenHeader owner broken.cause file)
    ⊎ ((broken.number ≡ length reports + 1) × AreReportsOf owner.terms reports × IsBrokenRecord owner reports broken.cause file)

-- the reports of a file before its first broken record, and that record, where there is one
abbrev pub IsRecovered : Owner → List Report → Option Broken → List ℕ → Type 0
IsRecovered owner reports None file = IsReadAs owner reports file
IsRecovered owner reports (Some broken) file = IsBroken owner reports broken file

-- the header that a scan found is the owner's, or the file is unformed
abbrev pub HasOwnHeader : Owner → Scanned → Type 0
HasOwnHeader owner scanned.Unformed = Unit {0}
HasOwnHeader owner (scanned.Formed header places end) = header ≡ header_of owner
HasOwnHeader owner (scanned.Damaged header places number) = (number ≢ 0) × (header ≡ header_of owner)

-- the header that a scan found is broken
abbrev pub FoundOther : Owner → Scanned → JournalCause → Type 0
FoundOther owner scanned.Unformed why = ⊥
FoundOther owner (scanned.Formed header places end) why = IsHeaderCause owner header why
FoundOther owner (scanned.Damaged header places number) why =
    ((number ≡ 0) × (why ≡ cause.Damaged)) ⊎ ((number ≢ 0) × IsHeaderCause owner header why)

-- whose header a scan found: the owner's, or a broken one, which is record 0
abbrev pub IfFoundOther : Owner → Scanned → Option Broken → Type 0
IfFoundOther owner scan None = HasOwnHeader owner scan
IfFoundOther owner scan (Some broken) = (broken.number ≡ 0) × FoundOther owner scan broken.cause
