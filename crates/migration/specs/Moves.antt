-- What a move of journals answers, and what it leaves.
use Rattle.std.specs.Prelude.{◌≡◌, ◌⊎◌, ℕ, ◌+◌, ◌<◌, ◌≤◌, List, length, take, slice_get, slice_index_or, Some, Result, Ok, Err, OnOk, IfErr}
use Rattle.house_io.specs.Disks.{DiskShown, IfDiskTold, HasTold}
use Rattle.lot_base.specs.declared.auction_terms.Terms.{Terms}
use Rattle.lot_base.specs.declared.limits.TheConstants.{GREATEST_FILE}
use Rattle.demand_set.specs.declared.reports.Report.{Report}
use Rattle.house_io.specs.Faults.{Rose}
use Rattle.house_io.specs.Moments.{AtEach, synced_at}
use Rattle.clock.specs.Reports.{ClockHistory}
use Rattle.report_journal.specs.Format.{front}
use Rattle.recovery.specs.Journaled.{Owner, contents_of, owner_of}
use Rattle.clock_book.specs.declared.faults.OpenFault.{OpenFault}
use Rattle.clock_book.specs.declared.faults.OpenFault.TheVariants as why
use Rattle.clock_book.specs.Opening.{IsOpening, ReadsClock, CountsFaults}
use Rattle.clock_book.specs.Opened.{LeftUnopened, IsLeftUnlessClaimed}
use Rattle.clock_book.specs.Past.{IsAsOpened}
use Rattle.clock_book.specs.Offers.{record_end}
use Rattle.migration.specs.declared.faults.MoveFault.{MoveFault}
use Rattle.migration.specs.declared.faults.MoveFault.TheVariants.{NotOpened, NotFront, Full, DiskFault, NoMemory}
use Rattle.migration.specs.Moving.{LeavesTarget, IsFront, IsMoved, IsNoFrontAt}

-- The front of the reports that fits a journal with its gate, and whose next record would end after the limit. There is one at most.
pub record IsFullAt (needed : ℕ) (owner : Owner) (reports : List Report) : Type 0 where
  pub count : ℕ
  pub report : Report
  pub next : slice_get reports count ≡ Some report
  pub fits : length (front (contents_of owner (take count reports))) + 1 ≤ GREATEST_FILE
  pub needed_is : needed ≡ record_end owner (take count reports) report
  pub beyond : GREATEST_FILE < needed

-- whether the answer tells of a fault of this clock's disk
abbrev pub TellsFaultOf : ℕ → Result (Unit {0}) MoveFault → Type 0
TellsFaultOf k (Err (NotOpened clock why.DiskFault)) = clock ≡ k
TellsFaultOf k (Err (DiskFault clock)) = clock ≡ k
TellsFaultOf k answer = ⊥

module _ {D : Type 0} (shown : D → DiskShown) (terms : Terms) (digest : List ℕ) (clocks : List ClockHistory) (old new : List D) where
  -- the reports of a clock that are moved
  abbrev reports_at : ℕ → ClockHistory → List Report
  reports_at k c = (slice_index_or clocks k c).reports

  -- the target of the clock stood for a legal history
  abbrev pub WasOpen : ℕ → D → Type 0
  WasOpen k d = IfDiskTold (shown (slice_index_or old k d)) (shown (slice_index_or new k d)) (λ before _. (c : ClockHistory) × IsOpening (owner_of terms k digest) before.now.read (Ok c))

  -- the target of the clock stood for a front of its reports
  abbrev pub WasFront : ℕ → D → ClockHistory → Type 0
  WasFront k d c = IfDiskTold (shown (slice_index_or old k d)) (shown (slice_index_or new k d)) (λ before _. IsFront (owner_of terms k digest) (reports_at k c) before.now.read)

  -- The book of this clock was not opened, for this fault, and those of the smaller ones were.
  pub record IsNotOpened (clock : ℕ) (fault : OpenFault) : Type 0 where
    pub within : clock < length old
    pub before : (k : ℕ) (d : D) → k < clock → WasOpen k d
    pub refused : (d : D) → IfDiskTold (shown (slice_index_or old clock d)) (shown (slice_index_or new clock d)) (λ before _. ReadsClock (owner_of terms clock digest) before.now.read (Err fault))
    pub counts : (d : D) → CountsFaults {T = ℕ} (shown (slice_index_or old clock d)).faults (shown (slice_index_or new clock d)).faults (Err fault)

  -- All books were opened, and this clock's is the first that has no front: its report of this number is the first that differs.
  pub record IsNotFront (clock number : ℕ) : Type 0 where
    pub within : clock < length old
    pub opened : (k : ℕ) (d : D) → k < length old → WasOpen k d
    pub before : (k : ℕ) (d : D) (c : ClockHistory) → k < clock → WasFront k d c
    pub differs : (d : D) (x : ClockHistory) → IfDiskTold (shown (slice_index_or old clock d)) (shown (slice_index_or new clock d))
        (λ before _. (c : ClockHistory) × IsOpening (owner_of terms clock digest) before.now.read (Ok c) × IsNoFrontAt number c.reports (reports_at clock x))

  -- the target of the clock stood for a front of its reports, and stands for all of them now
  abbrev pub WasMoved : ℕ → D → ClockHistory → Type 0
  WasMoved k d c = IfDiskTold (shown (slice_index_or old k d)) (shown (slice_index_or new k d)) (IsMoved (owner_of terms k digest) (reports_at k c))

  -- All targets were opened and had fronts. The journal of this clock has no room for its reports, and those of the smaller ones were moved.
  pub record IsFull (clock needed : ℕ) : Type 0 where
    pub within : clock < length old
    pub opened : (k : ℕ) (d : D) → k < length old → WasOpen k d
    pub fronts : (k : ℕ) (d : D) (c : ClockHistory) → k < length old → WasFront k d c
    pub before : (k : ℕ) (d : D) (c : ClockHistory) → k < clock → WasMoved k d c
    pub full : (c : ClockHistory) → IsFullAt needed (owner_of terms clock digest) (reports_at clock c)

  -- All targets were opened and had fronts. The disk of this clock failed, and the reports of the smaller ones were moved.
  pub record HasFailed (clock : ℕ) : Type 0 where
    pub within : clock < length old
    pub opened : (k : ℕ) (d : D) → k < length old → WasOpen k d
    pub fronts : (k : ℕ) (d : D) (c : ClockHistory) → k < length old → WasFront k d c
    pub before : (k : ℕ) (d : D) (c : ClockHistory) → k < clock → WasMoved k d c
    pub rose : (d : D) → Rose (shown (slice_index_or old clock d)).faults (shown (slice_index_or new clock d)).faults

  -- why the journals were not moved
  abbrev pub HasMoveCause : MoveFault → Type 0
  HasMoveCause (NotOpened clock fault) = IsNotOpened clock fault
  HasMoveCause (NotFront clock number) = IsNotFront clock number
  HasMoveCause (Full clock needed) = IsFull clock needed
  HasMoveCause (DiskFault clock) = HasFailed clock
  HasMoveCause NoMemory = Unit {0}

  -- nothing but the opening of a book was done to the target of the clock
  abbrev pub WasOnlyOpened : ℕ → D → Type 0
  WasOnlyOpened k d = IfDiskTold (shown (slice_index_or old k d)) (shown (slice_index_or new k d))
      (λ before after. AtEach (IsAsOpened (owner_of terms k digest) before.now.read) (synced_at before) after)

  -- The targets of the smaller clocks were only opened, this clock's was left by an opening that was refused, and the others are as they were.
  pub record AreOpenedUpTo (clock : ℕ) : Type 0 where
    pub before : (k : ℕ) (d : D) → k < clock → WasOnlyOpened k d
    pub here : (d : D) → IfDiskTold (shown (slice_index_or old clock d)) (shown (slice_index_or new clock d)) (LeftUnopened (owner_of terms clock digest))
    pub later : (k : ℕ) (d : D) → clock < k → slice_index_or new k d ≡ slice_index_or old k d

  -- with these answers no report was offered to any target
  abbrev pub OnlyOpened : Result (Unit {0}) MoveFault → Type 0
  OnlyOpened (Err (NotOpened clock fault)) = AreOpenedUpTo clock
  OnlyOpened (Err (NotFront clock number)) = (k : ℕ) (d : D) → k < length old → WasOnlyOpened k d
  OnlyOpened answer = Unit {0}

  -- The whole. The disks come back in order.
  pub record Moves (answer : Result (Unit {0}) MoveFault) : Type 0 where
    pub count : length new ≡ length old
    pub left : (k : ℕ) (d : D) (c : ClockHistory) → k < length old → IfDiskTold (shown (slice_index_or old k d)) (shown (slice_index_or new k d)) (LeavesTarget (owner_of terms k digest) (reports_at k c))
    pub unoffered : OnlyOpened answer
    pub told : (k : ℕ) (d : D) → k < length old → HasTold (shown (slice_index_or old k d)) (shown (slice_index_or new k d))
    pub unclaimed : (k : ℕ) (d : D) → k < length old → IsLeftUnlessClaimed (shown (slice_index_or old k d)) (shown (slice_index_or new k d))
    pub counts : (k : ℕ) (d : D) → k < length old → ((shown (slice_index_or new k d)).faults ≡ (shown (slice_index_or old k d)).faults)
        ⊎ (TellsFaultOf k answer × ((shown (slice_index_or old k d)).faults ≤ (shown (slice_index_or new k d)).faults))
    pub moved : OnOk answer ((k : ℕ) (d : D) (c : ClockHistory) → k < length old → WasMoved k d c)
    pub cause : IfErr answer HasMoveCause
