use Rattle.std.proofs.Common.{◌≡◌}
use Rattle.toml.specs.View.{view}
use Rattle.toml_tree.specs.Steps.{each_from}
use Rattle.valuation.specs.Tree.{integers_of}
use Rattle.toml_tree.proofs.Turns.{after, rest_of}
use Rattle.valuation.proofs.numbers.lists.Given as goal

-- the lists so far and those of the rest are all of the lists
abbrev pub invariant-loop-element : goal.invariant-loop-element
invariant-loop-element l =
    after l.lists.items (rest_of (λ _ v. integers_of l.key (view v)) 0 l.elements l.element-index) ≡ each_from (λ _ v. integers_of l.key (view v)) 0 l.elements
