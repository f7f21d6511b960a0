-- How the format says what is wrong in the tree, and the numbers that it takes.
use Rattle.std.specs.Prelude.{ℕ, ℤ, pos, negsuc, nat_le, if◌then◌else◌, List, Option, Some, None, Result}
use Rattle.std.specs.Option.{ok_or}
use Rattle.toml.specs.Data.{Data}
use Rattle.toml_tree.specs.Readers.{integer_of, array_of}
use Rattle.toml_tree.specs.Steps.{◌>>=◌, said_by, each_from}
use Rattle.toml_tree.specs.declared.faults.TreeFault.{TreeFault}
use Rattle.toml_tree.specs.declared.faults.TreeFault.TheVariants as tree
use Rattle.valuation.specs.declared.faults.ValueKey.{ValueKey}
use Rattle.valuation.specs.declared.faults.ValuesFault.{ValuesFault}
use Rattle.valuation.specs.declared.faults.ValuesFault.TheVariants as fault

-- what is wrong in the tree, as a fault of the file
abbrev pub fault_of : TreeFault ValueKey → ValuesFault
fault_of (tree.Missing key) = fault.Missing key
fault_of (tree.WrongKind key) = fault.WrongKind key
fault_of (tree.UnknownKey key) = fault.UnknownKey key
fault_of tree.NoMemory = fault.NoMemory

-- what is found in the tree, or the fault of the file
abbrev pub found : {A : Type 0} → Result A (TreeFault ValueKey) → Result A ValuesFault
found read = said_by fault_of read

-- the integers of an array
abbrev pub integers_of : ValueKey → Data → Result (List ℤ) ValuesFault
integers_of key value = found (array_of key value) >>= each_from (λ _ element. found (integer_of key element)) 0

-- the lists of integers of an array of arrays
abbrev pub lists_of : ValueKey → Data → Result (List (List ℤ)) ValuesFault
lists_of key value = found (array_of key value) >>= each_from (λ _. integers_of key) 0

-- the number, if it is from 0 to high
abbrev pub within : ℕ → ℤ → Option ℕ
within high (pos n) = if nat_le n high then Some n else None
within high (negsuc n) = None

-- the number, or the fault
abbrev pub ranged : ℕ → ValuesFault → ℤ → Result ℕ ValuesFault
ranged high refusal value = ok_or (within high value) refusal
