-- Counts of faults by name, as a list. A name that is not in it has the count 0; of two entries of one name the first
-- counts.
use Rattle.std.specs.Prelude.{ℕ, List, [], ◌∷◌, Option, map, bytes_eq, if◌then◌else◌}
use Rattle.house_io.specs.Shelves.{NamedFile, ShelfState}

-- a name and its count
pub record NamedCount : Type 0 where
  pub name : List ℕ
  pub faults : ℕ

-- the count of a name
abbrev pub count_of : List NamedCount → List ℕ → ℕ
count_of [] name = 0
count_of (count ∷ counts) name = if bytes_eq count.name name then count.faults else count_of counts name

-- the names that have a count
abbrev pub names_of : List NamedCount → List (List ℕ)
names_of counts = map (λ count. count.name) counts

-- the state of a shelf that keeps these counts
abbrev pub counted_state : Option (List NamedFile) → List NamedCount → ShelfState
counted_state files counts = record { files = files; faults = count_of counts; opened = names_of counts }
