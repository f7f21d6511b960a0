use Rattle.valuation.proofs.Trees.{gives-same, lists_of-array}
use Rattle.valuation.proofs.numbers.lists_of.Goals as goal

pub returns : goal.returns
returns c =
    gives-same (λ v. v.items) c.lists.result _ _ (lists_of-array c.args.key c.args.value.now c.in_ok-elements.elements.now c.in_ok-elements.ensures) c.lists.ensures
