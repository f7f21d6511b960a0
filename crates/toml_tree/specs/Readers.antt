-- The values that a format asks for. A fault names the key, of whatever type the format names its keys by.
use Rattle.std.specs.Prelude.{ℕ, ℤ, List, Option, Some, None, Result, Ok, Err}
use Rattle.std.specs.Option.{ok_or}
use Rattle.toml.specs.Data.{Data, Members, get_member, as_integer, as_str, as_table}
use Rattle.toml_tree.specs.Steps.{◌>>=◌}
use Rattle.toml_tree.specs.Tree.{elements_of, least_unknown}
use Rattle.toml_tree.specs.declared.faults.TreeFault.{TreeFault}
use Rattle.toml_tree.specs.declared.faults.TreeFault.TheVariants.{Missing, WrongKind, UnknownKey}

-- the value at a key that has to be there
abbrev pub value_at : {K : Type 0} → K → List ℕ → Members → Result Data (TreeFault K)
value_at key name table = ok_or (get_member name table) (Missing key)

-- the integer that a value is
abbrev pub integer_of : {K : Type 0} → K → Data → Result ℤ (TreeFault K)
integer_of key value = ok_or (as_integer value) (WrongKind key)

-- the integer at a key
abbrev pub integer_at : {K : Type 0} → K → List ℕ → Members → Result ℤ (TreeFault K)
integer_at key name table = value_at key name table >>= integer_of key

-- the string at a key
abbrev pub string_at : {K : Type 0} → K → List ℕ → Members → Result (List ℕ) (TreeFault K)
string_at key name table = value_at key name table >>= (λ value. ok_or (as_str value) (WrongKind key))

-- the elements of an array
abbrev pub array_of : {K : Type 0} → K → Data → Result (List Data) (TreeFault K)
array_of key value = ok_or (elements_of value) (WrongKind key)

-- the elements of the array at a key
abbrev pub array_at : {K : Type 0} → K → List ℕ → Members → Result (List Data) (TreeFault K)
array_at key name table = value_at key name table >>= array_of key

-- the table that an element of an array is
abbrev pub table_of : {K : Type 0} → K → Data → Result Members (TreeFault K)
table_of key element = ok_or (as_table element) (WrongKind key)

-- a fault where a key is unknown
abbrev pub refused_key : {K : Type 0} → Option (List ℕ) → Result (Unit {0}) (TreeFault K)
refused_key None = Ok tt
refused_key (Some key) = Err (UnknownKey key)

-- the table has no key but the known ones
abbrev pub known_keys : {K : Type 0} → List (List ℕ) → Members → Result (Unit {0}) (TreeFault K)
known_keys known table = refused_key (least_unknown known table)
