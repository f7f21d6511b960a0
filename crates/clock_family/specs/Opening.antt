-- How a house is opened.
use Rattle.std.specs.Prelude.{◌≡◌, ◌≤◌, ◌<◌, ℕ, Bool, IsTrue, List, [], ◌∷◌, length, slice_index_or, Option, IfSome}
use Rattle.house_io.specs.Disks.{DiskShown, IfDiskTells, HasTold}
use Rattle.std.specs.List.{AllByRecursion}
use Rattle.lot_base.specs.declared.auction_terms.Terms.{Terms}
use Rattle.demand_set.specs.declared.reports.Report.{Report}
use Rattle.house_io.specs.Moments.{Moments, Leaves}
use Rattle.recovery.specs.Journaled.{Owner, owner_of, StandsForReports}
use Rattle.clock_book.specs.Books.{BookOf}
use Rattle.clock_book.specs.DeskHistories.{reports_in, IsInDoubt}
use Rattle.clock_book.specs.Opened.{Opens, IsUnopened}
use Rattle.clock_book.specs.declared.faults.OpenFault.{OpenFault}
use Rattle.clock_book.specs.Past.{owner_in, IsEither, KeepsPast}
use Rattle.clock_book.specs.declared.entries.Entry.{Entry}
use Rattle.clock_book.specs.declared.origins.Origin.{Origin}
use Rattle.turn_desk.specs.Passes.{Opened, Known, AreNew, AreAll}
use Rattle.clock_family.specs.Turns.{clock_in}

-- a desk, with all its passes
pub record LaidOf (D : Type 0) : Type 0 where
  pub desk : Opened (BookOf D)
  pub passes : List (Known Entry Origin)

-- A desk that was laid for the clock of this number, with so many new passes: its book was opened on this disk.
pub record IsLaidFor {D : Type 0} (shown : D → DiskShown) (terms : Terms) (digest : List ℕ) (count clock : ℕ) (disk : D) (desk : Opened (BookOf D)) (passes : List (Known Entry Origin)) : Type 0 where
  pub opens : Opens shown (owner_of terms clock digest) disk desk.book
  pub new : AreNew count desk.id desk.book.state.history desk.book.origin passes
  pub all : AreAll desk.id passes

-- desks that were laid for the clocks from 0 on, each on its disk
pub record AreLaid {D : Type 0} (shown : D → DiskShown) (terms : Terms) (digest : List ℕ) (count : ℕ) (disks : List D) (laid : List (LaidOf D)) : Type 0 where
  pub within : length laid ≤ length disks
  pub each : (k : ℕ) (x : D) (l : LaidOf D) → k < length laid → IsLaidFor shown terms digest count k (slice_index_or disks k x) (slice_index_or laid k l).desk (slice_index_or laid k l).passes

-- no pass of the desk has made anything
pub record IsUnused {D : Type 0} (l : LaidOf D) : Type 0 where
  pub made_nothing : AllByRecursion (λ (p : Known Entry Origin). p.own ≡ []) l.passes

-- The disk of a book of this history, given back. It is claimed, and it stands for the reports of the history, or for these and the one
-- that is pending, which is in doubt by the history.
pub record IsGivenBack {D : Type 0} (shown : D → DiskShown) (origin : Origin) (history : List Entry) (disk : D) : Type 0 where
  pub pending : Option Report
  pub told : IfDiskTells (shown disk) (λ _. IsTrue origin.told)
  pub claimed : IsTrue (shown disk).claimed
  pub doubt : IfSome pending (IsInDoubt history)
  pub stands : IfDiskTells (shown disk) (λ moments. Leaves (IsEither (owner_in origin) (reports_in history) pending) moments.now)
  pub past : IfDiskTells (shown disk) (λ moments. KeepsPast origin (clock_in (owner_in origin) history) history moments)

-- the disks of the books on these desks, in order
abbrev pub AreGivenBack : {D : Type 0} → (D → DiskShown) → List (LaidOf D) → List D → Type 0
AreGivenBack shown [] [] = Unit {0}
AreGivenBack shown (l ∷ ls) (x ∷ xs) = IsGivenBack shown l.desk.book.origin l.desk.book.state.history x × AreGivenBack shown ls xs
AreGivenBack shown [] (x ∷ xs) = ⊥
AreGivenBack shown (l ∷ ls) [] = ⊥

-- A disk whose book was opened and given back. It is claimed, and it stands for the reports that the book had when it was opened, and for no others.
pub record WasOpened {D : Type 0} (shown : D → DiskShown) (owner : Owner) (old new : D) : Type 0 where
  pub first : BookOf D
  pub opens : Opens shown owner old first
  pub told : HasTold (shown first.disk) (shown new)
  pub claimed : IsTrue (shown new).claimed
  pub stands : IfDiskTells (shown new) (λ moments. Leaves (StandsForReports (owner_in first.origin) first.state.clock.reports) moments.now)
  pub past : IfDiskTells (shown new) (λ moments. KeepsPast first.origin first.state.clock first.state.history moments)

-- Why no house was opened: the clock of this number is the first whose book is not opened. The disks come back in order: those of
-- smaller clocks as their books left them, and those of greater clocks were not touched.
pub record IsNotOpen {D : Type 0} (shown : D → DiskShown) (terms : Terms) (digest : List ℕ) (old new : List D) (clock : ℕ) (fault : OpenFault) : Type 0 where
  pub within : clock < length old
  pub count : length new ≡ length old
  pub before : (k : ℕ) (x : D) → k < clock → WasOpened shown (owner_of terms k digest) (slice_index_or old k x) (slice_index_or new k x)
  pub refused : (x : D) → IsUnopened shown (owner_of terms clock digest) (slice_index_or old clock x) (slice_index_or new clock x) fault
  pub after : (k : ℕ) (x : D) → clock < k → slice_index_or new k x ≡ slice_index_or old k x
