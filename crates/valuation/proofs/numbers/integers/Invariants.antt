use Rattle.std.proofs.Common.{◌≡◌}
use Rattle.toml.specs.View.{view}
use Rattle.toml_tree.specs.Readers.{integer_of}
use Rattle.toml_tree.specs.Steps.{each_from}
use Rattle.valuation.specs.Tree.{found}
use Rattle.toml_tree.proofs.Turns.{after, rest_of}
use Rattle.valuation.proofs.numbers.integers.Given as goal

-- the numbers so far and those of the rest are all of the numbers
abbrev pub invariant-loop-element : goal.invariant-loop-element
invariant-loop-element l =
    after l.numbers.items (rest_of (λ _ v. found (integer_of l.key (view v))) 0 l.elements l.element-index) ≡ each_from (λ _ v. found (integer_of l.key (view v))) 0 l.elements
