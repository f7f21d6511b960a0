use Rattle.valuation.proofs.Trees.{gives-same, integers_of-array}
use Rattle.valuation.proofs.numbers.integers_of.Goals as goal

pub returns : goal.returns
returns c =
    gives-same (λ v. v.items) c.integers.result _ _ (integers_of-array c.args.key c.args.value.now c.in_ok-elements.elements.now c.in_ok-elements.ensures) c.integers.ensures
