-- Lives on both sides of a migration: the journals of lives under one auction file were moved, and more lives went on under another file of
-- the auction.
use Rattle.std.specs.Prelude.{◌≡◌, ◌≤◌, ◌+◌, ◌⊎◌, ℕ, Bool, List, Contains, Some, Ok, slice_get, slice_index_or}
use Rattle.demand_set.specs.declared.reports.Report.{Report}
use Rattle.house_io.specs.Shelves.{NamedFile}
use Rattle.auction_file.specs.AuctionFile.{auction_of}
use Rattle.auction_file.specs.Listing.{listing_of}
use Rattle.auction_file.specs.declared.listing.Auction.{Auction}
use Rattle.clock.specs.Reports.{ClockHistory}
use Rattle.command_line.specs.Commands.{Migrate, Settle, Standing}
use Rattle.house_run.specs.Journals.{AreFromJournals}
use Rattle.house_run.specs.Nets.{NetSeen}
use Rattle.house_run.specs.Seen.{Outside, SinkSeen, content}
use Rattle.house_lives.specs.Bytes.{IsShownAcknowledged}
use Rattle.house_lives.specs.Kept.{IsKept, WasThere}
use Rattle.house_lives.specs.Lives.{AreLives, IsAcknowledged, IsSent, Leads, Life}
use Rattle.house_lives.specs.Readings.{IsDoneRun, SettlesHistories, TellsHistories}

-- An auction and its journals: the file that says it, by its name, and what the names of its journals begin with.
pub record Place : Type 0 where
  pub value : Auction
  pub auction : List ℕ
  pub journals : List ℕ

-- A run of a migration, as the contract of the top call sees it; the files with which it began and ended, and those with which the next life
-- begins.
pub record Move : Type 0 where
  pub words : List (List ℕ)
  pub seen : Outside
  pub net : NetSeen
  pub sink : SinkSeen
  pub before : List NamedFile
  pub after : List NamedFile
  pub next : List NamedFile

-- The migration from the one place to the other was done. The second file says this auction.
pub record IsMove (old new : Place) (m : Move) : Type 0 where
  pub run : IsDoneRun (Migrate old.auction old.journals new.auction new.journals) old.value old.auction m.before m.after m.words m.seen m.net m.sink
  pub says : auction_of (content m.before new.auction) ≡ Ok (listing_of new.value)

-- These lives lead from the first files to those of the migration, and from what it left these others lead to the last ones.
pub record AreMovedLives (old new : Place) (first : List NamedFile) (lives : List Life) (m : Move) (others : List Life) (last : List NamedFile) : Type 0 where
  pub lives_are : AreLives old.value old.auction old.journals first lives m.before
  pub move : IsMove old new m
  pub leads : Leads new.value new.journals m.after m.next
  pub others_are : AreLives new.value new.auction new.journals m.next others last

-- the report was acknowledged in one of these lives at the place, by a session's turns or by the bytes of a link
pub record WasAcknowledged (at : Place) (lives : List Life) (clock : ℕ) (r : Report) : Type 0 where
  pub life : Life
  pub in_list : Contains lives life
  pub is : IsAcknowledged at.value at.journals life clock r ⊎ IsShownAcknowledged at.value life clock r

-- the report was sent in one of these lives at the place
pub record WasSent (at : Place) (lives : List Life) (clock : ℕ) (r : Report) : Type 0 where
  pub life : Life
  pub in_list : Contains lives life
  pub is : IsSent at.value at.journals life clock r

-- In this history of the clock each report stands that was acknowledged before the migration or after it. Each that stands there was there
-- at first, or was sent before or after it. None stands there twice.
pub record KeepsMoved (old new : Place) (first : List NamedFile) (lives others : List Life) (clock : ℕ) (c : ClockHistory) : Type 0 where
  pub kept : (r : Report) → WasAcknowledged old lives clock r ⊎ WasAcknowledged new others clock r → IsKept c r
  pub sent : (r : Report) → Contains c.reports r → WasThere old.value old.journals first clock r ⊎ (WasSent old lives clock r ⊎ WasSent new others clock r)
  pub once : (i j : ℕ) (r s : Report) → slice_get c.reports i ≡ Some r → slice_get c.reports j ≡ Some s → r.round ≡ s.round → r.bidder ≡ s.bidder → i ≡ j

-- of these histories, one of each clock, each keeps so
abbrev pub KeepAllMoved : Place → Place → List NamedFile → List Life → List Life → List ClockHistory → Type 0
KeepAllMoved old new first lives others histories = (k : ℕ) (c : ClockHistory) → k ≤ new.value.terms.bidders → KeepsMoved old new first lives others k (slice_index_or histories k c)

-- so are the histories that the last files have
abbrev pub MovedLivesLaw : Type 0
MovedLivesLaw = (old new : Place) (first : List NamedFile) (lives : List Life) (m : Move) (others : List Life) (last : List NamedFile) (histories : List ClockHistory)
    → AreMovedLives old new first lives m others last → AreFromJournals (Some last) new.value.terms new.value.digest new.journals (new.value.terms.bidders + 1) histories
    → KeepAllMoved old new first lives others histories

-- The outcome was written in which the histories settle of all clocks, and each of these keeps so.
pub record SettlesMoved (old new : Place) (json : Bool) (first : List NamedFile) (lives others : List Life) (last : List NamedFile) (sink : SinkSeen) : Type 0 where
  pub settles : SettlesHistories new.value new.journals json last sink
  pub keeps : KeepAllMoved old new first lives others settles.histories

-- so has a `settle` by the second file that is done
abbrev pub MovedSettleLaw : Type 0
MovedSettleLaw = (old new : Place) (json : Bool) (first : List NamedFile) (lives : List Life) (m : Move) (others : List Life) (last after : List NamedFile) (words : List (List ℕ)) (seen : Outside) (net : NetSeen) (sink : SinkSeen)
    → AreMovedLives old new first lives m others last → IsDoneRun (Settle new.auction new.journals json) new.value new.auction last after words seen net sink → SettlesMoved old new json first lives others last sink

-- It was written how the histories of all clocks stand, and each of these keeps so.
pub record TellsMoved (old new : Place) (first : List NamedFile) (lives others : List Life) (last : List NamedFile) (sink : SinkSeen) : Type 0 where
  pub tells : TellsHistories new.value new.journals last sink
  pub keeps : KeepAllMoved old new first lives others tells.histories

-- so has a `standing` by the second file that is done
abbrev pub MovedStandingLaw : Type 0
MovedStandingLaw = (old new : Place) (first : List NamedFile) (lives : List Life) (m : Move) (others : List Life) (last after : List NamedFile) (words : List (List ℕ)) (seen : Outside) (net : NetSeen) (sink : SinkSeen)
    → AreMovedLives old new first lives m others last → IsDoneRun (Standing new.auction new.journals) new.value new.auction last after words seen net sink → TellsMoved old new first lives others last sink
