use Rattle.std.proofs.Common.{◌≡◌, ◌++◌, drop}
use Rattle.valuation.specs.ValuesFile.{joined}
use Rattle.valuation.proofs.numbers.joined.Given as goal

abbrev pub invariant-loop-list : goal.invariant-loop-list
invariant-loop-list l = l.numbers.items ++ joined (drop l.list-index l.lists) ≡ joined l.lists
