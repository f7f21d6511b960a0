use Rattle.overshoot.specs.Scanned.{AllBefore}
use Rattle.overshoot.proofs.exchanging.verdict.Given as goal

abbrev pub invariant-loop-place : goal.invariant-loop-place
invariant-loop-place l = AllBefore l.table.demand.now l.place
