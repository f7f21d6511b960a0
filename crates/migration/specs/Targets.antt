-- The books on the targets, and what offering reports to them does.
use Rattle.std.specs.Prelude.{◌≡◌, ◌⊎◌, ℕ, ◌<◌, ◌≤◌, List, length, map, take, slice_index_or, Option, Some, None, Result, OnOk, IfErr}
use Rattle.house_io.specs.Disks.{DiskShown, IsLater, IfDiskTells, IfDiskTold}
use Rattle.lot_base.specs.declared.auction_terms.Terms.{Terms}
use Rattle.demand_set.specs.declared.reports.Report.{Report}
use Rattle.house_io.specs.Faults.{Rose}
use Rattle.house_io.specs.Moments.{Leaves, AtEach}
use Rattle.clock.specs.Reports.{ClockHistory}
use Rattle.recovery.specs.Journaled.{Owner, owner_of, StandsForReports}
use Rattle.clock_book.specs.Past.{owner_in}
use Rattle.clock_book.specs.Books.{BookOf}
use Rattle.clock_book.specs.Opened.{Opens}
use Rattle.migration.specs.declared.faults.MoveFault.{MoveFault}
use Rattle.migration.specs.declared.faults.MoveFault.TheVariants as fault
use Rattle.migration.specs.declared.faults.Stopped.{Stopped}
use Rattle.migration.specs.declared.faults.Stopped.TheVariants as stopped
use Rattle.migration.specs.Moving.{AreAlike, StandsForFront, IsNoFrontAt}
use Rattle.migration.specs.Moves.{IsFullAt, TellsFaultOf}

-- the reports are a front of the others
pub record IsFrontOf (reports others : List Report) : Type 0 where
  pub few : length reports ≤ length others
  pub same : reports ≡ take (length reports) others

-- they are, or the one of this number is the first that differs or is too many
abbrev pub IsFrontOrOff : List Report → List Report → Option ℕ → Type 0
IsFrontOrOff reports others None = IsFrontOf reports others
IsFrontOrOff reports others (Some number) = IsNoFrontAt number reports others

-- the disks of books
abbrev pub disks_of : {D : Type 0} → List (BookOf D) → List D
disks_of {D} books = map (λ (b : BookOf D). b.disk) books

-- books that were opened on the disks, clock by clock
pub record AreOpen {D : Type 0} (shown : D → DiskShown) (terms : Terms) (digest : List ℕ) (disks : List D) (books : List (BookOf D)) : Type 0 where
  pub within : length books ≤ length disks
  pub each : (k : ℕ) (x : D) (b : BookOf D) → k < length books → Opens shown (owner_of terms k digest) (slice_index_or disks k x) (slice_index_or books k b)

module _ {D : Type 0} (clocks : List ClockHistory) (books : List (BookOf D)) where
  -- the reports of the first so many books are fronts of those of their clocks
  pub record AreFronts (count : ℕ) : Type 0 where
    pub each : (k : ℕ) (b : BookOf D) (c : ClockHistory) → k < count → IsFrontOf (slice_index_or books k b).state.clock.reports (slice_index_or clocks k c).reports

  -- this clock's book is the first whose reports are no front, at this number
  pub record IsFirstOff (clock number : ℕ) : Type 0 where
    pub within : clock < length books
    pub before : AreFronts clock
    pub off : (b : BookOf D) (c : ClockHistory) → IsNoFrontAt number (slice_index_or books clock b).state.clock.reports (slice_index_or clocks clock c).reports

  -- why the reports are not all fronts, where there was memory to look
  abbrev pub IsFrontFault : MoveFault → Type 0
  IsFrontFault (fault.NotFront clock number) = IsFirstOff clock number
  IsFrontFault fault.NoMemory = Unit {0}
  IsFrontFault other = ⊥

-- The book has the first so many reports of the clock, which judges as its own does, and none is pending.
pub record HasFirst {D : Type 0} (source : ClockHistory) (count : ℕ) (b : BookOf D) : Type 0 where
  pub few : count ≤ length source.reports
  pub reports : b.state.clock.reports ≡ take count source.reports
  pub settled : b.state.pending ≡ None
  pub alike : AreAlike source.terms b.origin.terms
  pub number : source.number ≡ b.origin.clock

-- What offering reports did to a book: at each moment the file stood for a front of the clock's reports with at least those of the book.
pub record GoesOn {D : Type 0} (shown : D → DiskShown) (source : ClockHistory) (old new : BookOf D) : Type 0 where
  pub origin : new.origin ≡ old.origin
  pub later : IsLater (shown old.disk) (shown new.disk)
  pub leaves : IfDiskTold (shown old.disk) (shown new.disk)
      (λ before after. (after ≡ before) ⊎ AtEach (StandsForFront (owner_in old.origin) source.reports (length old.state.clock.reports)) before after)

-- why not all reports were offered, by the count of the disk's faults
abbrev pub StopsFor : ℕ → ℕ → Owner → List Report → Stopped → Type 0
StopsFor before now owner reports (stopped.Full needed) = (now ≡ before) × IsFullAt needed owner reports
StopsFor before now owner reports stopped.DiskFault = (before ≤ now) × Rose before now
StopsFor before now owner reports stopped.NoMemory = now ≡ before

abbrev pub fault_at : ℕ → Stopped → MoveFault
fault_at clock (stopped.Full needed) = fault.Full clock needed
fault_at clock stopped.DiskFault = fault.DiskFault clock
fault_at clock stopped.NoMemory = fault.NoMemory

-- each book has a front of the reports of its clock
pub record AreReady {D : Type 0} (clocks : List ClockHistory) (books : List (BookOf D)) : Type 0 where
  pub count : length clocks ≡ length books
  pub each : (k : ℕ) (b : BookOf D) (c : ClockHistory) → k < length books → HasFirst (slice_index_or clocks k c) (length (slice_index_or books k b).state.clock.reports) (slice_index_or books k b)

module _ {D : Type 0} (shown : D → DiskShown) (clocks : List ClockHistory) (old new : List (BookOf D)) where
  -- the book of this clock stands for all reports of the clock
  abbrev pub IsWhole : ℕ → BookOf D → ClockHistory → Type 0
  IsWhole k b c = IfDiskTells (shown (slice_index_or new k b).disk) (λ moments. Leaves (StandsForReports (owner_in (slice_index_or old k b).origin) (slice_index_or clocks k c).reports) moments.now)

  -- at this clock the reports were not all offered, for want of room or for a fault of the disk, and those of the smaller clocks were
  pub record StopsAt (clock : ℕ) (why : Stopped) : Type 0 where
    pub within : clock < length old
    pub before : (k : ℕ) (b : BookOf D) (c : ClockHistory) → k < clock → IsWhole k b c
    pub cause : (b : BookOf D) (c : ClockHistory)
        → StopsFor (shown (slice_index_or old clock b).disk).faults (shown (slice_index_or new clock b).disk).faults (owner_in (slice_index_or old clock b).origin) (slice_index_or clocks clock c).reports why

  abbrev pub IsStop : MoveFault → Type 0
  IsStop (fault.Full clock needed) = StopsAt clock (stopped.Full needed)
  IsStop (fault.DiskFault clock) = StopsAt clock stopped.DiskFault
  IsStop fault.NoMemory = Unit {0}
  IsStop other = ⊥

  -- what offering the reports of all clocks to the books does
  pub record AreOffered (answer : Result (Unit {0}) MoveFault) : Type 0 where
    pub count : length new ≡ length old
    pub each : (k : ℕ) (b : BookOf D) (c : ClockHistory) → k < length old → GoesOn shown (slice_index_or clocks k c) (slice_index_or old k b) (slice_index_or new k b)
    pub counts : (k : ℕ) (b : BookOf D) → k < length old → ((shown (slice_index_or new k b).disk).faults ≡ (shown (slice_index_or old k b).disk).faults)
        ⊎ (TellsFaultOf k answer × ((shown (slice_index_or old k b).disk).faults ≤ (shown (slice_index_or new k b).disk).faults))
    pub whole : OnOk answer ((k : ℕ) (b : BookOf D) (c : ClockHistory) → k < length old → IsWhole k b c)
    pub cause : IfErr answer IsStop
