use Rattle.award_assembly.proofs.Walking.{IsOnTheWay}
use Rattle.award_assembly.proofs.search.first_clearing.Given as goal

abbrev pub invariant-loop-place : goal.invariant-loop-place
invariant-loop-place l = IsOnTheWay l.goods l.opening l.prices l.demands l.place l.taken l.bundles.items
