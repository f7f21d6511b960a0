use Rattle.std.proofs.Common.{◌≡◌, ◌*◌}
use Rattle.valuation.specs.Carried.{best_before}
use Rattle.valuation.proofs.collecting.collect.Given as goal

abbrev pub invariant-loop-group : goal.invariant-loop-group
invariant-loop-group l = l.found.items ≡ best_before l.goods l.worth l.best (l.group * 32)
