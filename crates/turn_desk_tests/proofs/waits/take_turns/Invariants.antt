use Rattle.std.proofs.Common.{◌≡◌, None}
use Rattle.turn_desk_tests.proofs.waits.take_turns.Given as goal

abbrev pub invariant-loop-turn : goal.invariant-loop-turn
invariant-loop-turn g l = record {
  desk : l.pass.desk ≡ l.initial.pass.desk;
  rests : l.pass.turn ≡ None;
  made : l.pass.made ≡ l.initial.pass.made;
}
