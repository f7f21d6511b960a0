-- What histories keep of lives: each report that was acknowledged, and none that nobody sent.
use Rattle.std.specs.Prelude.{◌≡◌, ◌≤◌, ◌+◌, ◌⊎◌, ℕ, List, Contains, Some, slice_get, slice_index_or}
use Rattle.demand_set.specs.declared.reports.Report.{Report}
use Rattle.house_io.specs.Shelves.{NamedFile, moments_at}
use Rattle.auction_file.specs.declared.listing.Auction.{Auction}
use Rattle.recovery.specs.Journaled.{owner_of}
use Rattle.clock.specs.Reports.{ClockHistory, demand_in}
use Rattle.clock_book.specs.Opening.{StandsForHistory}
use Rattle.house_run.specs.Journals.{AreFromJournals}
use Rattle.house_run.specs.Needs.{journal_name}
use Rattle.house_lives.specs.Bytes.{IsShownAcknowledged}
use Rattle.house_lives.specs.Lives.{AreLives, IsAcknowledged, IsSent, Life, MayBeLeft}

-- The report was there at first: a history has it that the clock's journal stands for, as it is read or as a crash may leave it.
pub record WasThere (value : Auction) (journals : List ℕ) (first : List NamedFile) (clock : ℕ) (r : Report) : Type 0 where
  pub file : List ℕ
  pub is_left : MayBeLeft (moments_at first (journal_name journals clock)).now file
  pub history : ClockHistory
  pub stands : StandsForHistory (owner_of value.terms clock value.digest) history file
  pub has : Contains history.reports r

-- the report stands in the history, with its demand as the bidder's in its round
abbrev pub IsKept : ClockHistory → Report → Type 0
IsKept c r = Contains c.reports r × (demand_in c.reports r.round r.bidder ≡ Some r.demand)

-- In this history of the clock each report stands that was acknowledged in one of the lives, and each of which the bytes of a link show it.
-- Each that stands there was there at first, or was sent in one of the lives. None stands there twice.
pub record KeepsLives (value : Auction) (journals : List ℕ) (first : List NamedFile) (lives : List Life) (clock : ℕ) (c : ClockHistory) : Type 0 where
  pub kept : (l : Life) (r : Report) → Contains lives l → IsAcknowledged value journals l clock r → IsKept c r
  pub shown : (l : Life) (r : Report) → Contains lives l → IsShownAcknowledged value l clock r → IsKept c r
  pub sent : (r : Report) → Contains c.reports r → WasThere value journals first clock r ⊎ ((l : Life) × Contains lives l × IsSent value journals l clock r)
  pub once : (i j : ℕ) (r s : Report) → slice_get c.reports i ≡ Some r → slice_get c.reports j ≡ Some s → r.round ≡ s.round → r.bidder ≡ s.bidder → i ≡ j

-- so is the history of each clock that the last files have
abbrev pub LivesLaw : Type 0
LivesLaw = (value : Auction) (auction journals : List ℕ) (first : List NamedFile) (lives : List Life) (last : List NamedFile) (histories : List ClockHistory)
    → AreLives value auction journals first lives last → AreFromJournals (Some last) value.terms value.digest journals (value.terms.bidders + 1) histories
    → (k : ℕ) (c : ClockHistory) → k ≤ value.terms.bidders → KeepsLives value journals first lives k (slice_index_or histories k c)
