-- The bidders of a trial: each has a valuation, a list of values in order of index.
use Rattle.std.specs.Prelude.{ℕ, ◌-◌, List, [], slice_index_or, ℤ}
use Rattle.valuation.specs.Values.{valuation_of}

-- what each bidder's bundles are worth, by one list of values for each bidder, from bidder 1 on
abbrev pub bidders_of : List ℕ → List (List ℕ) → ℕ → List ℕ → ℤ
bidders_of supply valuations j = valuation_of supply (slice_index_or valuations (j - 1) [])
