-- A clock book as its callers see it.
use Rattle.std.specs.Prelude.{◌≡◌, ℕ, ◌+◌, ◌-◌, ◌*◌, ◌^◌, ◌≤◌, min, List, [], ◌∷◌, length, Option, Some, None, IfSome, IsTrue}
use Rattle.std.specs.List.{concat}
use Rattle.std.specs.Option.{option_map}
use Rattle.lot_base.specs.Goods.{box_size}
use Rattle.lot_base.specs.declared.limits.TheConstants.{GREATEST_FILE}
use Rattle.lot_base.specs.declared.auction_terms.Terms.{Terms}
use Rattle.demand_set.specs.declared.reports.Report.{Report}
use Rattle.clock.specs.Reports.{ClockHistory, most_reports}
use Rattle.clock.specs.Judging.{IsLegal}
use Rattle.house_io.specs.Disks.{DiskShown, IfDiskTells, is_told, told_moments}
use Rattle.house_io.specs.Moments.{Moments, Leaves}
use Rattle.report_journal.specs.Format.{front}
use Rattle.report_journal.specs.Journals.{JournalOf}
use Rattle.recovery.specs.Entries.{payload_of, AreReportsOf}
use Rattle.recovery.specs.Journaled.{contents_of}
use Rattle.clock_book.specs.declared.entries.Entry.{Entry}
use Rattle.clock_book.specs.declared.origins.Origin.{Origin}
use Rattle.clock_book.specs.DeskHistories.{NotedOf, HasRoomFor, reports_in, marks_in, IsInDoubt}
use Rattle.clock_book.specs.Past.{owner_in, IsNext, IsEither, KeepsPast}

-- the clock, the history of its desk, and the report that is pending: one that was offered and is in doubt since the disk failed
pub record BookState : Type 0 where
  pub clock : ClockHistory
  pub history : List Entry
  pub pending : Option Report

pub record BookOf (D : Type 0) : Type 0 where
  pub disk : D
  pub state : BookState
  pub origin : Origin

-- What a book keeps, as its callers see it. Its disk is claimed. Its history is legal, and its records and their gate end within the limit of a file. The
-- disk's file stands for its reports, or for these and the pending one, at each image that a crash may leave now; and since the opening
-- was answered it stood for a front of them, or for such a front and a report in doubt there. A disk that tells told then. The marks are
-- at most the faults of the disk, which are counted in 64 bits.
pub record IsKept {D : Type 0} (shown : D → DiskShown) (b : BookOf D) : Type 0 where
  -- the clock's history is a legal one of the owner, and the desk's history counts its reports
  pub legal : IsLegal b.state.clock
  pub terms : b.state.clock.terms ≡ b.origin.terms
  pub number : b.state.clock.number ≡ b.origin.clock
  pub reports : reports_in b.state.history ≡ b.state.clock.reports
  -- one fault of the disk at least for each mark
  pub marks : min (marks_in b.state.history) (2 ^ 64 - 1) ≤ (shown b.disk).faults
  -- the records and the gate after them end within a file's limit
  pub limit : length (front (contents_of (owner_in b.origin) b.state.clock.reports)) + 1 ≤ GREATEST_FILE
  -- a report that is pending is one that the clock would take next, and in doubt by the desk's history
  pub next : IfSome b.state.pending (IsNext b.state.clock)
  pub doubt : IfSome b.state.pending (IsInDoubt b.state.history)
  -- what the disk's file stands for, at each image now and at each moment since the opening; a disk that tells told then
  pub stands : IfDiskTells (shown b.disk) (λ moments. Leaves (IsEither (owner_in b.origin) b.state.clock.reports b.state.pending) moments.now)
  pub past : IfDiskTells (shown b.disk) (λ moments. KeepsPast b.origin b.state.clock b.state.history moments)
  pub first : IfDiskTells (shown b.disk) (λ _. IsTrue b.origin.told)
  -- nobody else writes the file
  pub claimed : IsTrue (shown b.disk).claimed

-- the quantities of these reports
abbrev pub quantities_in : List Report → ℕ
quantities_in [] = 0
quantities_in (r ∷ reports) = length (concat r.demand) + quantities_in reports

-- The most quantities of a clock's reports: a journal has room for 33,554,432 of two bytes each, and a report has at most one of each
-- good in each bundle of the box.
abbrev pub most_quantities : Terms → ℕ → ℕ
most_quantities terms number = min 33554432 (most_reports terms number * (length terms.goods * box_size terms.goods))

-- how many records are kept for the report that is pending
abbrev pub kept_for : Option Report → ℕ
kept_for None = 0
kept_for (Some r) = 1

-- there is room for the most reports and the most quantities in the clock, and for as many records in the journal
pub record HasRoom (n : NotedOf) (records : ℕ) : Type 0 where
  pub reports : most_reports n.clock.terms n.clock.number ≤ length n.clock.reports + n.spare_reports
  pub quantities : most_quantities n.clock.terms n.clock.number ≤ quantities_in n.clock.reports + n.spare_quantities
  pub records_are : most_reports n.clock.terms n.clock.number ≤ length n.clock.reports + records

-- the clock takes this report next, and has room for it
pub record IsWaiting (n : NotedOf) (r : Report) : Type 0 where
  pub next : IsNext n.clock r
  pub room : HasRoomFor n r

-- The same of its parts: its journal is that of its clock, its marks are at most the faults of its disk, and it has room.
pub record IsBook {D : Type 0} (j : JournalOf D) (told : Type 0) (ms : Moments) (faults : ℕ) (n : NotedOf) (pending : Option Report) (origin : Origin) : Type 0 where
  -- the clock is that of the origin, and its reports begin with those at the opening
  pub terms : n.clock.terms ≡ origin.terms
  pub number : n.clock.number ≡ origin.clock
  pub are : AreReportsOf origin.terms n.clock.reports
  pub opened : origin.reports ≤ length n.clock.reports
  -- the journal ends where the records of these reports end, and what it has in doubt is the pending report
  pub end : j.end ≡ length (front (contents_of (owner_in origin) n.clock.reports))
  pub in_doubt : j.pending ≡ option_map (payload_of (length origin.terms.goods)) pending
  -- the pending report is one that the clock takes next, and in doubt by the desk's history
  pub waits : IfSome pending (IsWaiting n)
  pub doubt : IfSome pending (IsInDoubt n.history)
  -- the desk's history counts the clock's reports, and each of its marks a fault
  pub reports : reports_in n.history ≡ n.clock.reports
  pub marks : min (marks_in n.history) (2 ^ 64 - 1) ≤ faults
  -- there is room for as many reports as the journal has places for
  pub room : HasRoom n (j.spare + kept_for pending)
  -- what the journal has, and what its file stood for since the opening, where the disk tells
  pub contents : told → j.contents ≡ contents_of (owner_in origin) n.clock.reports
  pub past : told → KeepsPast origin n.clock n.history ms
  pub first : told → IsTrue origin.told

-- the same on a disk that shows this
abbrev pub IsBookOn : {D : Type 0} → DiskShown → JournalOf D → NotedOf → Option Report → Origin → Type 0
IsBookOn disk j n pending origin = IsBook j (IsTrue (is_told disk)) (told_moments disk) disk.faults n pending origin
