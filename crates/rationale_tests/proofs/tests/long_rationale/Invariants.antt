use Rattle.std.proofs.Common.{◌≡◌, ◌+◌, length}
use Rattle.rationale_tests.proofs.tests.long_rationale.Given as goal

abbrev pub invariant-loop-number : goal.invariant-loop-number
invariant-loop-number g l = record {
  supply : l.rationale.supply ≡ l.goods;
  count : length l.rationale.observations + 1 ≡ l.number;
}
