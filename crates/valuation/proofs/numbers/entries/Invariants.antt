use Rattle.std.proofs.Common.{◌≡◌, length}
use Rattle.toml_tree.specs.Steps.{each_from}
use Rattle.valuation.specs.Tree.{ranged}
use Rattle.valuation.specs.declared.faults.ValuesFault.TheVariants.{Value}
use Rattle.toml_tree.proofs.Turns.{after, rest_of}
use Rattle.valuation.proofs.numbers.entries.Given as goal

-- the entries so far and those of the rest are all of the entries
abbrev pub invariant-loop-place : goal.invariant-loop-place
invariant-loop-place l = record {
  so_far : after l.entries.items (rest_of (λ place. ranged l.limit (Value l.bidder place)) 0 l.numbers l.place) ≡ each_from (λ place. ranged l.limit (Value l.bidder place)) 0 l.numbers;
  count : length l.entries.items ≡ l.place;
}
