-- How a run may end where journals are moved, end by end, beside the ends by the shelf and by the net.
use Rattle.std.specs.Prelude.{ℕ, List, None}
use Rattle.auction_file.specs.AuctionFile.{Listing}
use Rattle.house_run.specs.Causes.{IsBadAuction, JournalFailed}
use Rattle.house_run.specs.Moves.{AreOtherTerms, IsBadTarget, IsFull, IsNotPrefix}
use Rattle.house_run.specs.Needs.{Has, Moving, Needs}
use Rattle.house_run.specs.Seen.{ShelfSeen, IsAuctionAt, IsTooLong, auction_limit}
use Rattle.house_run.specs.declared.ends.Ended.{Ended}
use Rattle.house_run.specs.declared.ends.Ended.TheVariants as how
use Rattle.house_run.specs.declared.ends.File.TheVariants as which

-- the auction, its journals and where they are moved
abbrev pub HasMove : Needs → (List ℕ → List ℕ → Moving → Type 0) → Type 0
HasMove needs P = Has needs.auction (λ auction. Has needs.journals (λ journals. Has needs.moving (P auction journals)))

-- the first file was read, and the second is come to
abbrev pub MayReadSecond : ShelfSeen → List ℕ → Type 0
MayReadSecond shelf auction = (listing : Listing) × IsAuctionAt shelf auction listing

abbrev pub EndsMoving : Needs → ShelfSeen → Ended → Type 0
EndsMoving needs shelf (how.BadAuction fault) = HasMove needs (λ auction journals m. MayReadSecond shelf auction × IsBadAuction m.auction fault shelf)
EndsMoving needs shelf (how.TooLong which.Auction) = HasMove needs (λ auction journals m. MayReadSecond shelf auction × IsTooLong shelf m.auction auction_limit)
EndsMoving needs shelf (how.DiskFault clock) = HasMove needs (λ auction journals m. JournalFailed m.auction m.journals None clock shelf)
EndsMoving needs shelf how.OtherTerms = HasMove needs (λ auction journals m. AreOtherTerms shelf auction m.auction)
EndsMoving needs shelf (how.NotPrefix clock number) = HasMove needs (λ auction journals m. IsNotPrefix clock number shelf auction journals m.auction m.journals)
EndsMoving needs shelf (how.TargetFull clock needed) = HasMove needs (λ auction journals m. IsFull clock needed shelf auction journals m.auction m.journals)
EndsMoving needs shelf (how.BadTarget clock fault) = HasMove needs (λ auction journals m. IsBadTarget clock fault shelf auction journals m.auction m.journals)
EndsMoving needs shelf end = ⊥
