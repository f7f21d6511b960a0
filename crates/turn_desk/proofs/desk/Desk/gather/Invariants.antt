use Rattle.std.proofs.Common.{◌≡◌, List, [], ◌++◌, vec_len}
use Rattle.turn_desk.specs.Passes.{Known, Gathers}
use Rattle.turn_desk.proofs.desk.Desk.gather.Given as goal

abbrev pub invariant-loop-pass : goal.invariant-loop-pass
invariant-loop-pass g l = record {
  desk : l.seat.table_id ≡ l.self.id;
  hands : l.seat.me.1 ≡ [];
  taken : List (Known g.row.B-Entry.Denot g.row.B-Origin.Denot);
  all : l.fn.passes.items ≡ l.passes.items ++ taken;
  gathers : Gathers l.seat.me.0 taken;
}

abbrev pub decreases-loop-pass : goal.decreases-loop-pass
decreases-loop-pass g l = vec_len l.passes
