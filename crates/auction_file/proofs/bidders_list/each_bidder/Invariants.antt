use Rattle.std.proofs.Common.{◌≡◌, map, length}
use Rattle.toml.specs.View.{view}
use Rattle.auction_file.specs.AuctionFile.{bidder_at, each}
use Rattle.toml_tree.proofs.Turns.{after}
use Rattle.auction_file.proofs.Turns.{rest_of}
use Rattle.auction_file.proofs.bidders_list.each_bidder.Given as goal

-- the bidders so far and those of the rest are all of the bidders
abbrev pub invariant-loop-place : goal.invariant-loop-place
invariant-loop-place l = record {
  so_far : after l.bidders.items (rest_of bidder_at (map view l.elements) l.place) ≡ each bidder_at (map view l.elements);
  count : length l.bidders.items ≡ l.place;
}
