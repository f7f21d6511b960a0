use Rattle.award_assembly.specs.Remaining.{AreReaches}
use Rattle.award_assembly.proofs.search.reaches.Given as goal

abbrev pub invariant-loop-done : goal.invariant-loop-done
invariant-loop-done l = AreReaches l.goods l.opening l.prices l.demands l.done l.reaches.items
