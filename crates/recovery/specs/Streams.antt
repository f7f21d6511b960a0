-- The reports of a journal's file, given one after another.
use Rattle.std.specs.Prelude.{◌≡◌, ℕ, ◌+◌, ◌≤◌, ◌<◌, List, [], ◌∷◌, ◌++◌, length, map, take, drop, slice_get, Option, Some, None, IfSome, IsTrue, Result, Ok, Err}
use Rattle.house_io.specs.Disks.{DiskShown, is_told, told_moments}
use Rattle.house_io.specs.Faults.{Rose}
use Rattle.house_io.specs.Moments.{Moments, synced_at}
use Rattle.demand_set.specs.declared.reports.Report.{Report}
use Rattle.report_journal.specs.Puts.{IsSynced}
use Rattle.report_journal.specs.Journals.{payload_at, payloads_at}
use Rattle.report_journal.specs.Scans.{IsInOrder, IsScan, places_in}
use Rattle.report_journal.specs.declared.places.Place.{Place}
use Rattle.report_journal.specs.declared.scanning.Scanned.{Scanned}
use Rattle.report_journal.specs.declared.scanning.Scanned.TheVariants as scanned
use Rattle.recovery.specs.declared.faults.Broken.{Broken}
use Rattle.recovery.specs.declared.faults.RecoverFault.{RecoverFault}
use Rattle.recovery.specs.declared.faults.RecoverFault.TheVariants as why
use Rattle.recovery.specs.declared.streaming.Next.{Next}
use Rattle.recovery.specs.declared.streaming.Next.TheVariants as next
use Rattle.recovery.specs.Entries.{payload_of, IsReportOf, AreReportsOf, SpellsNone}
use Rattle.recovery.specs.Journaled.{Owner, header_of, IsReadAs, BeginsWithReports}
use Rattle.recovery.specs.Causes.{IsBroken}

-- bytes that were read ahead, from an offset on
pub record WindowOf : Type 0 where
  pub at : ℕ
  pub bytes : List ℕ

-- they are those of the file
abbrev pub IsWindow : WindowOf → List ℕ → Type 0
IsWindow window file = window.bytes ≡ take (length window.bytes) (drop window.at file)

-- they have a payload whole
pub record Covers (window : WindowOf) (place : Place) : Type 0 where
  pub begins : window.at ≤ place.at
  pub ends : place.at + place.length ≤ window.at + length window.bytes

-- A reader of a journal's reports as its callers see it.
pub record ReportsOf : Type 0 where
  pub owner : Owner
  -- what the scan answered with which it began
  pub scan : Scanned
  -- how many reports it has given
  pub given : ℕ
  -- the first broken record, once it was met
  pub broken : Option Broken
  pub window : WindowOf

-- the payloads of these reports are as long as the places say
abbrev pub AreLong : ℕ → List Place → List Report → Type 0
AreLong goods places reports = map (λ p. p.length) places ≡ map (λ r. length (payload_of goods r)) reports

-- The reader has given these reports, which are the first of the file. What is said of the file is said where the disk tells.
pub record HasGiven (told : Type 0) (reader : ReportsOf) (given : List Report) (file : List ℕ) : Type 0 where
  pub count : length given ≡ reader.given
  pub are : AreReportsOf reader.owner.terms given
  pub long : AreLong (length reader.owner.terms.goods) (take reader.given (places_in reader.scan)) given
  pub scan_is : told → IsScan reader.scan file
  pub payloads : told → payloads_at file (take reader.given (places_in reader.scan)) ≡ map (payload_of (length reader.owner.terms.goods)) given
  pub window_is : told → IsWindow reader.window file
  pub broken_is : told → IfSome reader.broken (λ b. IsBroken reader.owner given b file)

-- the same of the file of a disk that shows this
abbrev pub HasGivenOf : DiskShown → ReportsOf → List Report → Type 0
HasGivenOf disk reader given = HasGiven (IsTrue (is_told disk)) reader given (told_moments disk).now.read

-- Of a scan in which no record is broken: the file is unformed, or a journal of the owner with as many records as reports.
abbrev pub IsWhole : Owner → Scanned → List Report → Type 0
IsWhole owner scanned.Unformed reports = reports ≡ []
IsWhole owner (scanned.Formed header places end) reports = (header ≡ header_of owner) × AreLong (length owner.terms.goods) places reports
IsWhole owner (scanned.Damaged header places number) reports = ⊥

-- What was read of a journal is sound, whatever its disk tells: the places of a scan, the reports before the first broken record, and
-- that record, where there is one.
pub record IsSound (owner : Owner) (scan : Scanned) (reports : List Report) (broken : Option Broken) : Type 0 where
  pub in_order : IsInOrder scan
  -- where no record is broken, the reports are all
  pub whole : broken ≡ None → IsWhole owner scan reports
  -- each is of a bidder, with a demand of the supply
  pub are : AreReportsOf owner.terms reports
  pub long : AreLong (length owner.terms.goods) (take (length reports) (places_in scan)) reports

-- What the reader answers, which has given these reports before: the next report of the file; or the first broken record with its
-- cause; or the end, where these are all.
abbrev pub Answers : Type 0 → ReportsOf → List Report → List ℕ → Result Next RecoverFault → Type 0
Answers told reader given file (Ok (next.Report r)) =
    HasGiven told reader (given ++ r ∷ []) file × (told → BeginsWithReports reader.owner (given ++ r ∷ []) file)
Answers told reader given file (Ok (next.Broken broken)) = HasGiven told reader given file × (told → IsBroken reader.owner given broken file)
Answers told reader given file (Ok next.End) = HasGiven told reader given file × IsWhole reader.owner reader.scan given × (told → IsReadAs reader.owner given file)
Answers told reader given file (Err fault) = HasGiven told reader given file

-- the same of the file of a disk that shows this
abbrev pub AnswersOf : DiskShown → ReportsOf → List Report → Result Next RecoverFault → Type 0
AnswersOf disk reader given result = Answers (IsTrue (is_told disk)) reader given (told_moments disk).now.read result

-- all records of a scan were given, and no record is damaged
abbrev pub IsUndamaged : Scanned → Type 0
IsUndamaged (scanned.Damaged header places number) = ⊥
IsUndamaged scan = Unit {0}

-- the reader has given the report of each record, and no record is broken
pub record HasEnded (reader : ReportsOf) : Type 0 where
  pub unbroken : reader.broken ≡ None
  pub all : reader.given ≡ length (places_in reader.scan)
  pub undamaged : IsUndamaged reader.scan

-- how the reader goes on: one report more was given, or a broken record was met, or nothing changed but what was read ahead
abbrev pub GoesOn : ReportsOf → ReportsOf → Result Next RecoverFault → Type 0
GoesOn old new (Ok (next.Report r)) =
    (new ≡ record old { given = old.given + 1; window = new.window }) × (old.given < length (places_in old.scan)) × IsReportOf old.owner.terms r
GoesOn old new (Ok (next.Broken broken)) = new ≡ record old { broken = Some broken; window = new.window }
GoesOn old new (Ok next.End) = (new ≡ old) × HasEnded old
GoesOn old new (Err fault) = new ≡ record old { window = new.window }

-- the broken record and the end are answered again
pub record AnswersAgain (reader : ReportsOf) (answer : Result Next RecoverFault) : Type 0 where
  pub broken : IfSome reader.broken (λ b. answer ≡ Ok (next.Broken b))
  pub end : HasEnded reader → answer ≡ Ok next.End

-- a reader that has begun
pub record HasBegun (owner : Owner) (reader : ReportsOf) : Type 0 where
  pub owner_is : reader.owner ≡ owner
  pub given : reader.given ≡ 0

-- The count of a disk's faults over a call: DiskFault comes only where it rose, and with any other answer it is as before.
abbrev pub CountsFaults : {T : Type 0} → ℕ → ℕ → Result T RecoverFault → Type 0
CountsFaults before now (Ok answer) = now ≡ before
CountsFaults before now (Err why.DiskFault) = (before ≤ now) × Rose before now
CountsFaults before now (Err why.NoMemory) = now ≡ before

-- the good sync with which a reading begins: at Ok it was done, and on a refusal at most it was
abbrev pub IsSyncedBy : {T : Type 0} → Result T RecoverFault → Moments → Moments → Type 0
IsSyncedBy (Ok answer) old new = new ≡ synced_at old
IsSyncedBy (Err fault) old new = IsSynced old new

-- the number of the damaged record that a scan found
abbrev pub damaged_in : Scanned → Option ℕ
damaged_in (scanned.Damaged header places number) = Some number
damaged_in scan = None

-- the payload at this place is that of this report
pub record IsReportAt (reader : ReportsOf) (place : Place) (r : Report) : Type 0 where
  pub report : IsReportOf reader.owner.terms r
  pub long : place.length ≡ length (payload_of (length reader.owner.terms.goods) r)
  pub read : (file : List ℕ) → IsWindow reader.window file → payload_at file place ≡ payload_of (length reader.owner.terms.goods) r

-- the payload at this place is that of no report, where it was read whole
abbrev pub HasNoReportAt : ReportsOf → Place → Type 0
HasNoReportAt reader place = Covers reader.window place → (file : List ℕ) → IsWindow reader.window file → SpellsNone reader.owner.terms (payload_at file place)

-- These are the payload of the next record, read ahead, and no broken record was met.
pub record IsAhead (reader : ReportsOf) (payload : List ℕ) : Type 0 where
  pub unbroken : reader.broken ≡ None
  pub place : Place
  pub next : slice_get (places_in reader.scan) reader.given ≡ Some place
  pub long : place.length ≡ length payload
  pub read : (file : List ℕ) → IsWindow reader.window file → payload_at file place ≡ payload

-- The reader goes on as if it had answered this report, whatever its disk tells.
pub record Passes (old new : ReportsOf) (r : Report) : Type 0 where
  pub goes_on : GoesOn old new (Ok (next.Report r))
  pub answers : (disk : DiskShown) (given : List Report) → HasGivenOf disk old given → AnswersOf disk new given (Ok (next.Report r))
