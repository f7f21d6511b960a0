-- A table with a number for each set of goods, at the set's number.
use Rattle.std.specs.Prelude.{ℕ, List, ℤ, pos, slice_index_or}

-- the excess of a set in a table, 0 after the table's end
abbrev pub excess_in : List ℤ → ℕ → ℤ
excess_in table set = slice_index_or table set (pos 0)
