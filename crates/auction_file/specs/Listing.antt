-- An auction in memory beside what a file says.
use Rattle.std.specs.Prelude.{◌≡◌, ◌<◌, ℕ, List, map}
use Rattle.lot_base.specs.declared.auction_terms.Terms.{Terms}
use Rattle.auction_file.specs.declared.goods_list.Good.{Good}
use Rattle.auction_file.specs.declared.bidders_list.Bidder.{Bidder}
use Rattle.auction_file.specs.declared.listing.Auction.{Auction}
use Rattle.auction_file.specs.AuctionFile.{Listing}

-- what is said of an auction in memory
abbrev pub listing_of : Auction → Listing
listing_of auction = record {
  version = auction.terms.version;
  supply = auction.terms.goods;
  ceiling = auction.terms.ceiling;
  opening = auction.terms.opening;
  good_names = auction.good_names;
  bidder_names = auction.bidder_names;
  token_digests = auction.token_digests;
  digest = auction.digest;
}

-- a good opens below the ceiling, and at 0 in version 1
pub record IsOpened (version ceiling : ℕ) (good : Good) : Type 0 where
  pub below : good.opening < ceiling
  pub zero : version ≡ 1 → good.opening ≡ 0

-- the terms on which these goods are sold
pub record IsTermsFor (version ceiling : ℕ) (goods : List Good) (supply : List ℕ) (bidders : ℕ) (terms : Terms) : Type 0 where
  pub version_is : terms.version ≡ version
  pub ceiling_is : terms.ceiling ≡ ceiling
  pub goods_are : terms.goods ≡ supply
  pub bidders_are : terms.bidders ≡ bidders
  pub opening_is : terms.opening ≡ map (λ good. good.opening) goods

-- the listing of these goods and bidders
abbrev pub listing : Terms → List Good → List Bidder → List ℕ → Listing
listing terms goods bidders digest = record {
  version = terms.version;
  supply = terms.goods;
  ceiling = terms.ceiling;
  opening = terms.opening;
  good_names = map (λ good. good.name) goods;
  bidder_names = map (λ bidder. bidder.name) bidders;
  token_digests = map (λ bidder. bidder.digest) bidders;
  digest = digest;
}
