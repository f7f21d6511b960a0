-- What the steps of a migration do on the shelf before a target is opened.
use Rattle.std.specs.Prelude.{◌≡◌, ◌+◌, ℕ, List, [], ◌∷◌, length}
use Rattle.house_io.specs.Shelves.{ChangesNone}
use Rattle.clock.specs.Reports.{ClockHistory}
use Rattle.auction_file.specs.Listing.{listing_of}
use Rattle.auction_file.specs.declared.listing.Auction.{Auction}
use Rattle.house_run.specs.Found.{as_found, found}
use Rattle.house_run.specs.Frame.{KeepsAll}
use Rattle.house_run.specs.MigrateCommand.{MigrateFrame, migrate_needs}
use Rattle.house_run.specs.Moves.{IsMove, IsSameListing}
use Rattle.house_run.specs.Needs.{IsJournal, first_journals, with_names}
use Rattle.house_run.specs.NetEnds.{Ends}
use Rattle.house_run.specs.Nets.{NetSeen}
use Rattle.house_run.specs.Seen.{IsAuctionAt, Outside, ShelfSeen}
use Rattle.house_run.specs.Steps.{IsSteady}
use Rattle.house_run.specs.declared.ends.Ended.{Ended}

-- a migration ends so before it opens a target
pub record StopsMoving (old journals new target : List ℕ) (seen : Outside) (end : Ended) : Type 0 where
  pub cause : (net : NetSeen) → Ends (migrate_needs old journals new target) (as_found seen) net end
  pub frame : MigrateFrame old journals new target end seen

-- both auction files were read, and the auction can go on under the second
pub record AreFilesRead (old new : List ℕ) (first second : Auction) (shelf : ShelfSeen) : Type 0 where
  pub old_is : IsAuctionAt (found shelf) old (listing_of first)
  pub new_is : IsAuctionAt (found shelf) new (listing_of second)
  pub same : IsSameListing (listing_of first) (listing_of second)
  pub unchanged : ChangesNone shelf.files_before shelf.files
  pub steady : IsSteady shelf
  pub names : shelf.opened ≡ with_names (old ∷ new ∷ []) shelf.opened_before

-- so were then all journals
pub record IsMoveRead (old journals new : List ℕ) (second : Auction) (histories : List ClockHistory) (shelf : ShelfSeen) : Type 0 where
  pub move : IsMove (found shelf) old journals new histories second.terms second.digest
  pub files : KeepsAll (IsJournal journals) shelf.files_before shelf.files
  pub steady : IsSteady shelf
  pub names : shelf.opened ≡ with_names (old ∷ new ∷ first_journals journals (length move.first.bidder_names + 1)) shelf.opened_before
