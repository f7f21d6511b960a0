use Rattle.std.proofs.Common.{◌≡◌, map}
use Rattle.toml.specs.View.{view}
use Rattle.auction_file.specs.AuctionFile.{good_at, each}
use Rattle.toml_tree.proofs.Turns.{after}
use Rattle.auction_file.proofs.Turns.{rest_of}
use Rattle.auction_file.proofs.goods_list.each_good.Given as goal

-- the goods so far and those of the rest are all of the goods
abbrev pub invariant-loop-place : goal.invariant-loop-place
invariant-loop-place l =
    after l.goods.items (rest_of (good_at l.version l.ceiling) (map view l.elements) l.place) ≡ each (good_at l.version l.ceiling) (map view l.elements)
