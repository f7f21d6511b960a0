use Rattle.clock_family_tests.specs.Ready.{IsReady}
use Rattle.clock_family_tests.proofs.tests.first_other.Given as goal

abbrev pub invariant-loop-turn : goal.invariant-loop-turn
invariant-loop-turn g l = record { ready : IsReady l.terms l.house l.passes.items }
