-- What a valuation file says, or the first fault of it. The file is a TOML table with one key, `valuations`: an array of tables,
-- one for each bidder, in order. Each says what a bundle x is worth to the bidder, in one of four forms, looked at in this order:
--
--     form = "table"       values: a value for each bundle of the box, in order of index; that of the empty bundle is 0
--     form = "marginal"    lists: for each good a list with a value for each unit, the first unit first
--     form = "unit"        values: a value for each good; the best of which x has a unit
--     form = "capped"      values: a value for each unit of each good; cap: 0 to 65,535; the best of x of at most cap units
--
-- Each entry, and what each bundle is worth, is 0 to the ceiling less 1.
-- Sources: TOML 1.1 (https://toml.io/en/v1.1.0) as `toml` reads it; for the forms see Forms.
-- Odd cases: bytes that are not UTF-8 are no TOML. An array of inline tables is the same tree as an array of tables. In `lists`
-- the places of the entries are counted over all lists, and the place of a cap is the number of goods. Bidders are counted from 1.
use Rattle.std.specs.Prelude.{ℕ, ◌-◌, nat_le, ◌==◌, codes, if◌then◌else◌, List, [], ◌∷◌, ◌++◌, length, map, Option, Some, None, Result, Ok, Err, ℤ, position, slice_index}
use Rattle.std.specs.Option.{ok_or}
use Rattle.std.specs.Str.{bytes_eq}
use Rattle.lot_base.specs.Goods.{box_size}
use Rattle.lot_base.specs.Box.{box}
use Rattle.toml.specs.Data.{Data, Members}
use Rattle.toml_tree.specs.Readers.{value_at, integer_at, string_at, array_at, table_of, known_keys}
use Rattle.toml_tree.specs.Steps.{◌>>=◌, check, each_from}
use Rattle.toml_tree.specs.Tree.{tree_of}
use Rattle.valuation.specs.declared.faults.ValueKey.TheVariants as key
use Rattle.valuation.specs.declared.faults.ValuesFault.{ValuesFault}
use Rattle.valuation.specs.declared.faults.ValuesFault.TheVariants as fault
use Rattle.valuation.specs.Forms.{marginal_value, unit_value, capped_value}
use Rattle.valuation.specs.Tree.{found, integers_of, lists_of, ranged}

-- the tree of the document
unfoldable pub document_of : List ℕ → Result Members ValuesFault
document_of bytes = ok_or (tree_of bytes) fault.NotToml

-- the list has as many entries as it needs
abbrev pub long : (bidder needed found : ℕ) → Result (Unit {0}) ValuesFault
long bidder needed found = check (found == needed) (fault.Length bidder found needed)

-- there is a list for each good, as long as its supply
abbrev pub all_long : {A : Type 0} (bidder : ℕ) (supply : List ℕ) → List (List A) → Result (Unit {0}) ValuesFault
all_long bidder (s ∷ supply) (l ∷ lists) = long bidder s (length l) >>= (λ _. all_long bidder supply lists)
all_long bidder supply lists = Ok tt

-- numbers from 0 to a limit
abbrev pub entries : (bidder limit : ℕ) → List ℤ → Result (List ℕ) ValuesFault
entries bidder limit numbers = each_from (λ place. ranged limit (fault.Value bidder place)) 0 numbers

-- the numbers of all lists, one list after another
abbrev pub joined : List (List ℤ) → List ℤ
joined [] = []
joined (l ∷ lists) = l ++ joined lists

-- so many entries at the key `values`
unfoldable pub values_at : (bidder limit needed : ℕ) → Members → Result (List ℕ) ValuesFault
values_at bidder limit needed table = do
  value ← found (value_at (key.Values bidder) (codes "values") table)
  numbers ← integers_of (key.Values bidder) value
  _ ← long bidder needed (length numbers)
  entries bidder limit numbers

-- a list for each good at the key `lists`, with an entry for each unit; the entries of all of them
unfoldable pub lists_at : (bidder limit : ℕ) (supply : List ℕ) → Members → Result (List ℕ) ValuesFault
lists_at bidder limit supply table = do
  value ← found (value_at (key.Lists bidder) (codes "lists") table)
  lists ← lists_of (key.Lists bidder) value
  _ ← long bidder (length supply) (length lists)
  _ ← all_long bidder supply lists
  entries bidder limit (joined lists)

-- the cap; its place is after those of the values
unfoldable pub cap_at : (bidder goods : ℕ) → Members → Result ℕ ValuesFault
cap_at bidder goods table = found (integer_at (key.Cap bidder) (codes "cap") table) >>= ranged 65535 (fault.Value bidder goods)

-- the values of all bundles of the box, in each form
unfoldable pub table_form : (bidder limit : ℕ) (supply : List ℕ) → Members → Result (List ℕ) ValuesFault
table_form bidder limit supply table = do
  _ ← found (known_keys (codes "form" ∷ codes "values" ∷ []) table)
  values ← values_at bidder limit (box_size supply) table
  _ ← check (slice_index values 0 == 0) (fault.EmptyNotZero bidder)
  Ok values

unfoldable pub marginal_form : (bidder limit : ℕ) (supply : List ℕ) → Members → Result (List ℕ) ValuesFault
marginal_form bidder limit supply table = do
  _ ← found (known_keys (codes "form" ∷ codes "lists" ∷ []) table)
  numbers ← lists_at bidder limit supply table
  Ok (map (marginal_value supply numbers) (box supply))

unfoldable pub unit_form : (bidder limit : ℕ) (supply : List ℕ) → Members → Result (List ℕ) ValuesFault
unit_form bidder limit supply table = do
  _ ← found (known_keys (codes "form" ∷ codes "values" ∷ []) table)
  values ← values_at bidder limit (length supply) table
  Ok (map (unit_value values) (box supply))

unfoldable pub capped_form : (bidder limit : ℕ) (supply : List ℕ) → Members → Result (List ℕ) ValuesFault
capped_form bidder limit supply table = do
  _ ← found (known_keys (codes "form" ∷ codes "values" ∷ codes "cap" ∷ []) table)
  values ← values_at bidder limit (length supply) table
  cap ← cap_at bidder (length supply) table
  Ok (map (capped_value values cap) (box supply))

-- the values in the form of this name
abbrev pub in_form : List ℕ → (bidder limit : ℕ) (supply : List ℕ) → Members → Result (List ℕ) ValuesFault
in_form form bidder limit supply table =
    if bytes_eq form (codes "table") then table_form bidder limit supply table
    else if bytes_eq form (codes "marginal") then marginal_form bidder limit supply table
    else if bytes_eq form (codes "unit") then unit_form bidder limit supply table
    else if bytes_eq form (codes "capped") then capped_form bidder limit supply table
    else Err (fault.Form bidder)

-- the values, unless that of a bundle, the first such bundle, is above the limit
abbrev pub below : (bidder : ℕ) → Option ℕ → List ℕ → Result (List ℕ) ValuesFault
below bidder None values = Ok values
below bidder (Some index) values = Err (fault.Above bidder index)

unfoldable pub valuation_at : (ceiling bidder : ℕ) (supply : List ℕ) → Data → Result (List ℕ) ValuesFault
valuation_at ceiling bidder supply element = do
  table ← found (table_of (key.Table bidder) element)
  form ← found (string_at (key.Form bidder) (codes "form") table)
  values ← in_form form bidder (ceiling - 1) supply table
  below bidder (position (λ value. nat_le ceiling value) values) values

-- what the bytes say, or their first fault
unfoldable pub values_of : (supply : List ℕ) (bidders ceiling : ℕ) → List ℕ → Result (List (List ℕ)) ValuesFault
values_of supply bidders ceiling bytes = do
  file ← document_of bytes
  _ ← found (known_keys (codes "valuations" ∷ []) file)
  elements ← found (array_at key.Valuations (codes "valuations") file)
  _ ← check (length elements == bidders) (fault.Bidders (length elements))
  each_from (λ bidder. valuation_at ceiling bidder supply) 1 elements
