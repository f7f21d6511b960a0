use Rattle.rationale.proofs.Wanted.{IsShownTo}
use Rattle.rationale.proofs.placing.show_places.Given as goal

abbrev pub invariant-loop-i : goal.invariant-loop-i
invariant-loop-i l = IsShownTo l.goods l.demand l.places l.i
