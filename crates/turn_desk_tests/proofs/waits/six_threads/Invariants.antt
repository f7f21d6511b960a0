use Rattle.turn_desk.specs.Passes.{AreAll}
use Rattle.turn_desk_tests.proofs.waits.six_threads.Given as goal

abbrev pub invariant-loop-turn : goal.invariant-loop-turn
invariant-loop-turn g l = AreAll l.desk.id l.passes.items
