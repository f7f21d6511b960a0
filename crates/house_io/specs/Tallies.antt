-- The tallies that a shelf keeps.
use Rattle.std.specs.Prelude.{ℕ, List, map, string_bytes}
use Rattle.house_io.specs.declared.tallies.Tally.{Tally}
use Rattle.house_io.specs.Counts.{NamedCount}
use Rattle.house_io.specs.Places.{HasNone, IsFirstAt}

-- the counts that the tallies stand for
abbrev pub counts_in : List Tally → List NamedCount
counts_in tallies = map (λ tally. record { name = string_bytes tally.name; faults = tally.faults }) tallies

-- no tally has this name
abbrev pub HasNo : List Tally → List ℕ → Type 0
HasNo tallies name = HasNone (λ tally. string_bytes tally.name) tallies name

-- the place of the first tally of this name
abbrev pub IsPlace : List Tally → List ℕ → ℕ → Type 0
IsPlace tallies name place = IsFirstAt (λ tally. string_bytes tally.name) tallies name place
