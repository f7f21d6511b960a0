-- How the format says what is wrong in the tree, and the numbers that it takes.
use Rattle.std.specs.Prelude.{ℕ, ℤ, pos, negsuc, nat_le, ◌&&◌, if◌then◌else◌, Option, Some, None, Result}
use Rattle.std.specs.Option.{ok_or}
use Rattle.toml_tree.specs.Steps.{said_by}
use Rattle.toml_tree.specs.declared.faults.TreeFault.{TreeFault}
use Rattle.toml_tree.specs.declared.faults.TreeFault.TheVariants as tree
use Rattle.auction_file.specs.declared.faults.Key.{Key}
use Rattle.auction_file.specs.declared.faults.AuctionFault.{AuctionFault}
use Rattle.auction_file.specs.declared.faults.AuctionFault.TheVariants as fault

-- what is wrong in the tree, as a fault of the file
abbrev pub fault_of : TreeFault Key → AuctionFault
fault_of (tree.Missing key) = fault.Missing key
fault_of (tree.WrongKind key) = fault.WrongKind key
fault_of (tree.UnknownKey key) = fault.UnknownKey key
fault_of tree.NoMemory = fault.NoMemory

-- what is found in the tree, or the fault of the file
abbrev pub found : {A : Type 0} → Result A (TreeFault Key) → Result A AuctionFault
found read = said_by fault_of read

-- the number, if it is from low to high
abbrev pub within : ℕ → ℕ → ℤ → Option ℕ
within low high (pos n) = if nat_le low n && nat_le n high then Some n else None
within low high (negsuc n) = None

-- the number, or the fault with it
abbrev pub ranged : ℕ → ℕ → (ℤ → AuctionFault) → ℤ → Result ℕ AuctionFault
ranged low high refused value = ok_or (within low high value) (refused value)
