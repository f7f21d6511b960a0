use Rattle.std.proofs.Common.{◌≡◌, vec_len, vec_capacity}
use Rattle.turn_desk.specs.Passes.{AreNew}
use Rattle.turn_desk.proofs.desk.Desk.new.Given as goal

abbrev pub invariant-loop-number : goal.invariant-loop-number
invariant-loop-number g l = record {
  len : vec_len l.list ≡ l.number;
  room : vec_capacity l.list ≡ vec_capacity l.initial.list;
  passes : AreNew l.number l.desk.id (g.B.Book.history l.fn.book) (g.B.Book.origin l.fn.book) l.list.items;
}
