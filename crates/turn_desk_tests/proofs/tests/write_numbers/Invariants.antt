use Rattle.std.proofs.Common.{◌≡◌, vec_len}
use Rattle.turn_desk.specs.Passes.{AreAll}
use Rattle.turn_desk_tests.proofs.tests.write_numbers.Given as goal

abbrev pub invariant-loop-place : goal.invariant-loop-place
invariant-loop-place g l = record {
  all : AreAll l.desk.id l.passes.items;
  len : vec_len l.passes ≡ vec_len l.initial.passes;
}
