use Rattle.overshoot.specs.Scanned.{WithBefore}
use Rattle.overshoot.proofs.exchanging.first_partner.Given as goal

abbrev pub invariant-loop-place : goal.invariant-loop-place
invariant-loop-place l = WithBefore l.table.demand.now l.x l.place
