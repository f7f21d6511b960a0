use Rattle.std.proofs.Common.{◌≡◌}
use Rattle.toml.specs.View.{view}
use Rattle.toml_tree.specs.Steps.{each_from}
use Rattle.valuation.specs.ValuesFile.{valuation_at}
use Rattle.toml_tree.proofs.Turns.{after, rest_of}
use Rattle.valuation.proofs.reader.each_bidder.Given as goal

-- the valuations so far and those of the rest are all of the valuations
abbrev pub invariant-loop-place : goal.invariant-loop-place
invariant-loop-place l =
    after l.valuations.items (rest_of (λ bidder v. valuation_at l.ceiling bidder l.goods (view v)) 1 l.elements l.place) ≡ each_from (λ bidder v. valuation_at l.ceiling bidder l.goods (view v)) 1 l.elements
