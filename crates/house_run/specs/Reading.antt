-- What the code's values stand for where files are read.
use Rattle.std.specs.Prelude.{◌≡◌, ◌≢◌, ℕ, List, Result, Ok, Err}
use Rattle.lot_base.specs.declared.auction_terms.Terms.{Terms}
use Rattle.clock.specs.Reports.{ClockHistory, ClockOf}
use Rattle.auction_file.specs.AuctionFile.{auction_of}
use Rattle.auction_file.specs.Listing.{listing_of}
use Rattle.auction_file.specs.declared.listing.Auction.{Auction}
use Rattle.auction_file.specs.declared.faults.AuctionFault.{AuctionFault}
use Rattle.auction_file.specs.declared.faults.AuctionFault.TheVariants as refused
use Rattle.report_log.specs.declared.pieces.LogFault.{LogFault}
use Rattle.report_log.specs.declared.pieces.LogFault.TheVariants as fault
use Rattle.house_run.specs.Causes.{IsBadLog}
use Rattle.report_log.specs.Logs.{IsLogOf, log_limit}
use Rattle.house_run.specs.Seen.{IsRead, IsTooLong, ShelfSeen}

-- What the log of this name gives.
pub record IsClockOf (terms : Terms) (c : ClockHistory) (shelf : ShelfSeen) (name : List ℕ) : Type 0 where
  pub read : List ℕ
  pub is_read : IsRead shelf name log_limit read
  pub log : IsLogOf terms c read

abbrev pub ReadsLogAt : Terms → Result ClockOf LogFault → ShelfSeen → List ℕ → Type 0
ReadsLogAt terms (Ok c) shelf name = IsClockOf terms c.history shelf name
ReadsLogAt terms (Err (fault.Faulty place)) shelf name = IsBadLog (record { terms = terms; name = name }) place shelf
ReadsLogAt terms (Err fault.TooLong) shelf name = IsTooLong shelf name log_limit
ReadsLogAt terms (Err fault.Failed) shelf name = Unit {0}
ReadsLogAt terms (Err fault.NoMemory) shelf name = Unit {0}

-- it is the auction that the bytes say, or their fault, unless memory runs out
abbrev pub IsAuctionOf : Result Auction AuctionFault → List ℕ → Type 0
IsAuctionOf (Ok auction) bytes = auction_of bytes ≡ Ok (listing_of auction)
IsAuctionOf (Err refusal) bytes = refusal ≢ refused.NoMemory → auction_of bytes ≡ Err refusal
