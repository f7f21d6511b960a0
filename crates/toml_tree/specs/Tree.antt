-- The tree of a TOML document, and what is looked up in it. Keys are told apart by their bytes.
-- TOML 1.1, https://toml.io/en/v1.1.0: the tree of a text is the one that the reader `toml` gives.
use Rattle.std.specs.Prelude.{ℕ, if◌then◌else◌, List, [], ◌∷◌, Option, Some, None, option_map}
use Rattle.std.specs.List.{list_any}
use Rattle.std.specs.Str.{bytes_eq, is_utf8}
use Rattle.std.specs.Ordering.{nat_cmp, is_gt}
use Rattle.std.specs.Cmp.Lexicographic.{slice_cmp}
use Rattle.toml.specs.Data.{Data, Items, no_items, item, Members, no_members, member, as_array}
use Rattle.toml.specs.Parse.{parse_document}

-- the tree of the bytes, if they are a document in UTF-8
unfoldable pub tree_of : List ℕ → Option Members
tree_of bytes = if is_utf8 bytes then parse_document bytes else None

-- the elements as a list
abbrev pub elements : Items → List Data
elements no_items = []
elements (item value rest) = value ∷ elements rest

-- the elements of an array, if the value is one
abbrev pub elements_of : Data → Option (List Data)
elements_of value = option_map elements (as_array value)

-- the lesser of two keys in byte order
abbrev pub lesser : List ℕ → Option (List ℕ) → List ℕ
lesser key None = key
lesser key (Some other) = if is_gt (slice_cmp nat_cmp key other) then other else key

-- the least key, in byte order, that is none of the known ones
abbrev pub least_unknown : List (List ℕ) → Members → Option (List ℕ)
least_unknown known no_members = None
least_unknown known (member key value rest) =
    if list_any (bytes_eq key) known then least_unknown known rest else Some (lesser key (least_unknown known rest))
