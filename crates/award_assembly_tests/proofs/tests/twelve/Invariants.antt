use Rattle.std.specs.List.{AllByRecursion}
use Rattle.lot_base.specs.Demands.{IsDemand}
use Rattle.award_assembly_tests.proofs.tests.twelve.Given as goal

abbrev pub invariant-loop : goal.invariant-loop
invariant-loop g l = AllByRecursion (λ d. IsDemand l.goods d) l.demands.items
