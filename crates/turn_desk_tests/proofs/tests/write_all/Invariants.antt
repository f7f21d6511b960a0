use Rattle.std.proofs.Common.{◌≡◌, None}
use Rattle.turn_desk_tests.proofs.tests.write_all.Given as goal

abbrev pub invariant-loop-note : goal.invariant-loop-note
invariant-loop-note g l = record {
  desk : l.pass.desk ≡ l.initial.pass.desk;
  rests : l.pass.turn ≡ None;
  made : l.pass.made ≡ l.initial.pass.made;
}
