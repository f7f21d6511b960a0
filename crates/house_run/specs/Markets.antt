-- A market: the terms of an auction and a valuation for each bidder, from two files or from a number; and what a trial of it gives.
use Rattle.std.specs.Prelude.{◌≡◌, ◌≢◌, ◌<◌, ◌≤◌, ℕ, ℤ, List, length, Ok, Err, Option, IfSome}
use Rattle.lot_base.specs.Goods.{at}
use Rattle.lot_base.specs.declared.auction_terms.Terms.{Terms}
use Rattle.clock.specs.Reports.{ClockHistory}
use Rattle.settlement.specs.declared.outcome.Outcome.{Outcome}
use Rattle.settlement.specs.declared.outcome.Settlement.TheVariants.{Settled}
use Rattle.auction_file.specs.AuctionFile.{Listing}
use Rattle.valuation.specs.ValuesFile.{values_of}
use Rattle.valuation.specs.declared.faults.ValuesFault.{ValuesFault}
use Rattle.valuation.specs.declared.faults.ValuesFault.TheVariants as refused
use Rattle.trial.specs.Bidding.{bidders_of}
use Rattle.trial.specs.Trials.{IsTried}
use Rattle.trial.specs.Refusals.{IsFirstWithout}
use Rattle.two_way.specs.Histories.{IsFirstOutside, IsStart}
use Rattle.house_run.specs.Journals.{IsTermsOf}
use Rattle.house_run.specs.Seen.{ShelfSeen, IsAuctionAt, IsRead, values_limit}

-- the auction of a file has these terms
pub record HasTerms (shelf : ShelfSeen) (auction : List ℕ) (terms : Terms) : Type 0 where
  pub listing : Listing
  pub auction_is : IsAuctionAt shelf auction listing
  pub terms_are : IsTermsOf listing terms

-- the auction that was read has no bidder of the number that is needed
pub record IsNoBidder (shelf : ShelfSeen) (auction : List ℕ) (bidder needed : ℕ) : Type 0 where
  pub listing : Listing
  pub auction_is : IsAuctionAt shelf auction listing
  pub bidder_is : bidder ≡ needed
  pub above : length listing.bidder_names < bidder

-- there are so many start prices, and not one for each good of the auction
pub record IsOtherCount (shelf : ShelfSeen) (auction : List ℕ) (found : ℕ) (start : List ℕ) : Type 0 where
  pub terms : Terms
  pub terms_are : HasTerms shelf auction terms
  pub found_is : found ≡ length start
  pub other : length start ≢ length terms.goods

-- there is a start price for each good of the auction, and this good's is the first below its opening, or not below the ceiling
pub record StartsOutside (shelf : ShelfSeen) (auction : List ℕ) (good value : ℕ) (start : List ℕ) : Type 0 where
  pub terms : Terms
  pub terms_are : HasTerms shelf auction terms
  pub count : length start ≡ length terms.goods
  pub value_is : value ≡ at start good
  pub first : IsFirstOutside terms start good

-- The valuations are come to: the auction was read, has the bidder that is needed, if one is, and its clocks can start at the prices that are
-- needed, if some are.
pub record ComesToValues (shelf : ShelfSeen) (auction : List ℕ) (bidder : Option ℕ) (start : Option (List ℕ)) (terms : Terms) : Type 0 where
  pub terms_are : HasTerms shelf auction terms
  pub has_bidder : IfSome bidder (λ b. b ≤ terms.bidders)
  pub starts : IfSome start (IsStart terms)

-- the file of this name has these valuations, one for each bidder
pub record HasValues (shelf : ShelfSeen) (terms : Terms) (values : List ℕ) (valuations : List (List ℕ)) : Type 0 where
  pub read : List ℕ
  pub is_read : IsRead shelf values values_limit read
  pub says : values_of terms.goods terms.bidders terms.ceiling read ≡ Ok valuations

pub record IsMarketAt (shelf : ShelfSeen) (auction values : List ℕ) (terms : Terms) (valuations : List (List ℕ)) : Type 0 where
  pub terms_are : HasTerms shelf auction terms
  pub values_are : HasValues shelf terms values valuations

-- the bidders of a market
abbrev pub market_bidders : Terms → List (List ℕ) → ℕ → List ℕ → ℤ
market_bidders terms valuations = bidders_of terms.goods valuations

-- The trial of a market settles with this outcome: an equilibrium at the least prices from the reserves on, with the payments of Vickrey,
-- Clarke and Groves.
pub record TriesAs (terms : Terms) (valuations : List (List ℕ)) (outcome : Outcome) : Type 0 where
  pub clocks : List ClockHistory
  pub tried : IsTried terms (market_bidders terms valuations) clocks (Settled outcome)

-- the goods are no strong substitutes for a bidder of a market
pub record IsNotSubstitutesAt (shelf : ShelfSeen) (auction values : List ℕ) (bidder : ℕ) (x y : List ℕ) (good : ℕ) : Type 0 where
  pub terms : Terms
  pub valuations : List (List ℕ)
  pub market : IsMarketAt shelf auction values terms valuations
  pub first : IsFirstWithout terms (market_bidders terms valuations) bidder x y good

-- the file of this name is refused for the auction's terms
pub record IsBadValues (shelf : ShelfSeen) (auction values : List ℕ) (fault : ValuesFault) : Type 0 where
  pub terms : Terms
  pub terms_are : HasTerms shelf auction terms
  pub read : List ℕ
  pub is_read : IsRead shelf values values_limit read
  pub says : values_of terms.goods terms.bidders terms.ceiling read ≡ Err fault
  pub other : fault ≢ refused.NoMemory
