-- What a house that was served comes to at one clock, and at its journal.
use Rattle.std.specs.Prelude.{◌≡◌, ◌<◌, ◌⊎◌, ℕ, List, [], false, length, map, slice_index_or, IfSome, Some}
use Rattle.std.specs.List.{AllByRecursion}
use Rattle.house_io.specs.Moments.{Leaves, Moments, synced_at}
use Rattle.recovery.specs.Journaled.{Owner}
use Rattle.clock_book.specs.Books.{BookState}
use Rattle.clock_book.specs.DeskHistories.{IsInDoubt, reports_in}
use Rattle.clock_book.specs.Opened.{LeftUnopened}
use Rattle.clock_book.specs.Opening.{IsHistoryOf, StandsForHistory, history_of}
use Rattle.clock_book.specs.Past.{IsEither, IsNext, KeepsPast, owner_in}
use Rattle.clock_book.specs.declared.entries.Entry.{Entry}
use Rattle.clock_book.specs.declared.entries.Entry.TheVariants.{Offered}
use Rattle.clock_book.specs.declared.origins.Origin.{Origin}
use Rattle.turn_desk.specs.Passes.{Known}
use Rattle.house_serve.specs.Houses.{DoorRun}

-- the origin of the clock's book, the history of its desk at the opening, and how the book stood at the closing
pub record ClockRun : Type 0 where
  pub origin : Origin
  pub opening : List Entry
  pub closed : BookState

-- The book is the owner's. At the opening each report was noted as offered, and the origin says how many these were. The history at the closing
-- is a legal one. A report that is pending is in doubt by the history of the desk, and the clock would take it next.
pub record IsClockRun (owner : Owner) (run : ClockRun) : Type 0 where
  pub owner_is : owner_in run.origin ≡ owner
  pub opening_is : run.opening ≡ map Offered (reports_in run.opening)
  pub least_is : run.origin.reports ≡ length (reports_in run.opening)
  pub history : IsHistoryOf owner run.closed.clock
  pub reports : reports_in run.closed.history ≡ run.closed.clock.reports
  pub next : IfSome run.closed.pending (IsNext run.closed.clock)
  pub doubt : IfSome run.closed.pending (IsInDoubt run.closed.history)

-- A new pass of the clock's desk: it is of the clock's book, has seen the history at the opening, and has made nothing.
pub record IsNewPassAt (run : ClockRun) (pass : Known Entry Origin) : Type 0 where
  pub origin : pass.origin ≡ Some run.origin
  pub seen : pass.seen ≡ run.opening
  pub own : pass.own ≡ []

-- one of each clock, in order
pub record AreNewPasses (clocks : List ClockRun) (passes : List (Known Entry Origin)) : Type 0 where
  pub count : length passes ≡ length clocks
  pub each : (k : ℕ) (c : ClockRun) (p : Known Entry Origin) → k < length clocks → IsNewPassAt (slice_index_or clocks k c) (slice_index_or passes k p)

-- each door began with such passes
abbrev pub BeginNew : {R L : Type 0} → List ClockRun → List (DoorRun R L) → Type 0
BeginNew {R = R} {L = L} clocks doors = AllByRecursion (λ (d : DoorRun R L). AreNewPasses clocks d.before.passes) doors

-- no door failed
abbrev pub NoneFailed : {R L : Type 0} → List (DoorRun R L) → Type 0
NoneFailed {R = R} {L = L} doors = AllByRecursion (λ (d : DoorRun R L). d.log.failed ≡ false) doors

-- The journal of the clock, which had these moments before and has these after. The reports at the opening are those that it stood for;
-- at each moment from the sync of the opening on it stood for what the book's past says; and each image of it now stands for the reports
-- of the closed book, or for these and the one that is pending.
pub record IsJournalRun (owner : Owner) (run : ClockRun) (before after : Moments) : Type 0 where
  pub stood : StandsForHistory owner (history_of owner (reports_in run.opening)) before.now.read
  pub read_is : run.origin.read ≡ before.now.read
  pub synced_is : run.origin.synced ≡ length (synced_at before).past
  pub past : KeepsPast run.origin run.closed.clock run.closed.history after
  pub stands : Leaves (IsEither owner run.closed.clock.reports run.closed.pending) after.now

-- The book was closed as it was opened. As the history at an opening has no mark, no report is pending.
abbrev pub IsUnused : ClockRun → Type 0
IsUnused run = run.closed.history ≡ run.opening

-- the journal was left as an opening that was refused leaves it, or as one does whose book was closed unused
abbrev pub LeavesJournal : Owner → Moments → Moments → Type 0
LeavesJournal owner before after = LeftUnopened owner before after ⊎ ((run : ClockRun) × IsClockRun owner run × IsUnused run × IsJournalRun owner run before after)
