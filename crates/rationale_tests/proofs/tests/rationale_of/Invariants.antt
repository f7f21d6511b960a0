use Rattle.std.proofs.Common.{◌≡◌, length}
use Rattle.rationale_tests.proofs.tests.rationale_of.Given as goal

abbrev pub invariant-loop-place : goal.invariant-loop-place
invariant-loop-place g l = record {
  supply : l.rationale.supply ≡ l.goods;
  count : length l.rationale.observations ≡ l.place;
}
