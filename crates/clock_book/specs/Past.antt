-- What the disk of a book has left at each moment since it was opened.
use Rattle.std.specs.Prelude.{◌≡◌, ◌⊎◌, ℕ, ◌≤◌, List, [], ◌∷◌, ◌++◌, length, take, Option, Some, None}
use Rattle.lot_base.specs.Demands.{IsDemand}
use Rattle.demand_set.specs.declared.reports.Report.{Report}
use Rattle.clock.specs.Reports.{ClockHistory}
use Rattle.clock.specs.Judging.{judgement_of}
use Rattle.clock.specs.declared.judging.Judgement.TheVariants.{Take}
use Rattle.house_io.specs.Moments.{EachLeaves, Moment, Moments, all}
use Rattle.report_journal.specs.Format.{IsUnformed}
use Rattle.recovery.specs.Journaled.{Owner, owner_of, StandsForReports}
use Rattle.clock_book.specs.declared.entries.Entry.{Entry}
use Rattle.clock_book.specs.declared.origins.Origin.{Origin}
use Rattle.clock_book.specs.DeskHistories.{IsMarkedBehind}

-- whose journal the book's is
abbrev pub owner_in : Origin → Owner
owner_in origin = owner_of origin.terms origin.clock origin.digest

-- the file stands for these reports, or for these and the one that is in hand
abbrev pub IsEither : Owner → List Report → Option Report → List ℕ → Type 0
IsEither owner reports None file = StandsForReports owner reports file
IsEither owner reports (Some r) file = StandsForReports owner reports file ⊎ StandsForReports owner (reports ++ r ∷ []) file

-- the clock with so many of its reports
abbrev pub first_of : ℕ → ClockHistory → ClockHistory
first_of count c = record c { reports = take count c.reports }

-- the clock takes this report next
pub record IsNext (c : ClockHistory) (r : Report) : Type 0 where
  pub take : judgement_of c r ≡ Take
  pub fits : IsDemand c.terms.goods r.demand

-- The file stood for a front of the reports that begins with those at opening, or for such a front and one report more, which the clock
-- took next: the history of the desk has a mark of it there, so it was offered then, and answered by a fault of the disk.
pub record StoodFor (origin : Origin) (c : ClockHistory) (history : List Entry) (file : List ℕ) : Type 0 where
  pub count : ℕ
  pub least : origin.reports ≤ count
  pub most : count ≤ length c.reports
  pub stands : StandsForReports (owner_in origin) (take count c.reports) file
      ⊎ ((r : Report) × IsNext (first_of count c) r × IsMarkedBehind history count r × StandsForReports (owner_in origin) (take count c.reports ++ r ∷ []) file)

-- The file is what it was at the sync with which the opening began. Where it was unformed then, it may also be unformed in another
-- way, or stand for no reports.
abbrev pub IsAsOpened : Owner → List ℕ → List ℕ → Type 0
IsAsOpened owner read file = (file ≡ read) ⊎ (IsUnformed read × (IsUnformed file ⊎ StandsForReports owner [] file))

-- The moments of the disk, the newest first: those since the opening was answered, at which the file stood for such reports; those between
-- the sync of the opening and its answer, at which the file was as it was opened; and those before the sync.
pub record KeepsPast (origin : Origin) (c : ClockHistory) (history : List Entry) (ms : Moments) : Type 0 where
  pub later : List Moment
  pub between : List Moment
  pub earlier : List Moment
  pub split : all ms ≡ later ++ (between ++ earlier)
  pub synced : length earlier ≡ origin.synced
  pub answered : length (between ++ earlier) ≡ origin.answered
  pub stood : EachLeaves (StoodFor origin c history) later
  pub opened : EachLeaves (IsAsOpened (owner_in origin) origin.read) between
