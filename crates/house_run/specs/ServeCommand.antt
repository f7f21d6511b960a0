-- The command `serve AUCTION JOURNALS ADDRESS [--doors D] [--sessions S]`: an auction is served to its bidders at doors of the net.
use Rattle.std.specs.Prelude.{◌≡◌, ◌⊎◌, ◌+◌, ℕ, List, map, Some}
use Rattle.house_io.specs.Shelves.{ChangesNone}
use Rattle.auction_file.specs.Listing.{listing_of}
use Rattle.auction_file.specs.declared.listing.Auction.{Auction}
use Rattle.house_serve.specs.Houses.{DoorRun}
use Rattle.house_run.specs.Causes.{Tells}
use Rattle.house_run.specs.ClockRuns.{ClockRun, NoneFailed}
use Rattle.house_run.specs.Disks.{KeepsOthers}
use Rattle.house_io.specs.NetsShown.{DoorShown, LinkShown}
use Rattle.house_run.specs.Found.{found}
use Rattle.house_run.specs.Frame.{OpensInOrder, RisesAmong}
use Rattle.house_run.specs.Needs.{IsJournal, Needs, nothing_needed}
use Rattle.command_line.specs.Parts.{Serving}
use Rattle.house_run.specs.Nets.{NetSeen, IsNetUntouched}
use Rattle.house_run.specs.Seen.{IsAuctionAt, Outside, ShelfSeen}
use Rattle.house_run.specs.ServeTexts.{serve_text}
use Rattle.house_run.specs.Serving.{AuctionNotServed, AuctionServed}
use Rattle.house_run.specs.declared.ends.Ended.{Ended}
use Rattle.house_run.specs.declared.ends.Ended.TheVariants as how

abbrev pub serve_needs : List ℕ → List ℕ → Serving → Needs
serve_needs auction journals s = record nothing_needed { auction = Some auction; journals = Some journals; serve = Some s }

-- The auction that was found was served, and no door failed. The text tells how each session at each door ended, and how the clocks stood at
-- the closing.
pub record ServeDone (auction journals : List ℕ) (s : Serving) (shelf : ShelfSeen) (net : NetSeen) (text : List ℕ) : Type 0 where
  pub value : Auction
  pub auction_is : IsAuctionAt (found shelf) auction (listing_of value)
  pub clocks : List ClockRun
  pub doors : List (DoorRun DoorShown LinkShown)
  pub served : AuctionServed value journals s shelf net clocks doors
  pub none_failed : NoneFailed doors
  pub text_is : text ≡ serve_text (map (λ (d : DoorRun DoorShown LinkShown). d.log.ends.items) doors) (map (λ (c : ClockRun). c.closed.clock) clocks)

-- Whether a door failed, by the end of a command that served. Once it has served it ends in no other way.
abbrev pub FailedSo : Ended → List (DoorRun DoorShown LinkShown) → Type 0
FailedSo how.Done doors = NoneFailed doors
FailedSo how.NoMemory doors = NoneFailed doors
FailedSo how.NetFault doors = NoneFailed doors → ⊥
FailedSo end doors = ⊥

-- The auction was served, though the command may have ended so.
pub record ServedThen (value : Auction) (journals : List ℕ) (s : Serving) (end : Ended) (shelf : ShelfSeen) (net : NetSeen) : Type 0 where
  pub clocks : List ClockRun
  pub doors : List (DoorRun DoorShown LinkShown)
  pub served : AuctionServed value journals s shelf net clocks doors
  pub failed : FailedSo end doors

-- The auction was found, and it was served or not. No file but the journals of its clocks was changed.
pub record ServesFound (auction journals : List ℕ) (s : Serving) (end : Ended) (shelf : ShelfSeen) (net : NetSeen) : Type 0 where
  pub value : Auction
  pub auction_is : IsAuctionAt (found shelf) auction (listing_of value)
  pub others : KeepsOthers journals (value.terms.bidders + 1) shelf.files_before shelf.files
  pub left : ServedThen value journals s end shelf net ⊎ AuctionNotServed value journals s shelf net end

-- nothing was done but to read
pub record ServesNothing (shelf : ShelfSeen) (net : NetSeen) : Type 0 where
  pub files_same : ChangesNone shelf.files_before shelf.files
  pub net_same : IsNetUntouched net

-- A serve that ended so opened the auction file, and then the journals of a front of its clocks. It passed over no fault but those of its
-- journals, which an answer told a bidder.
pub record ServeFrame (auction journals : List ℕ) (s : Serving) (end : Ended) (seen : Outside) (net : NetSeen) : Type 0 where
  pub names : OpensInOrder (serve_needs auction journals s) (found seen.shelf)
  pub counts : RisesAmong (λ name. Tells (serve_needs auction journals s) end name ⊎ IsJournal journals name) seen.shelf.faults_before seen.shelf.faults
  pub left : ServesNothing seen.shelf net ⊎ ServesFound auction journals s end seen.shelf net
