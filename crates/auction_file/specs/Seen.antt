-- What a call answers beside what a definition gives, where the call's value is seen through a view.
use Rattle.std.specs.Prelude.{Result}
use Rattle.toml_tree.specs.Seen.{GivesUnless}
use Rattle.auction_file.specs.declared.faults.AuctionFault.{AuctionFault}
use Rattle.auction_file.specs.declared.faults.AuctionFault.TheVariants.{NoMemory}

-- the call gives what is read, unless memory runs out
abbrev pub GivesIfRoom : {X Y : Type 0} → (X → Y) → Result X AuctionFault → Result Y AuctionFault → Type 0
GivesIfRoom view result read = GivesUnless NoMemory view result read
