use Rattle.std.proofs.Common.{◌≡◌}
use Rattle.turn_desk.proofs.Growth.{Appended}
use Rattle.turn_desk.proofs.board.Board.leave.Given as goal

abbrev pub invariant-loop-made : goal.invariant-loop-made
invariant-loop-made g l = (l.seat.table_id ≡ l.initial.seat.table_id) × (l.seat.id ≡ l.initial.seat.id) × (l.seat.me.1 ≡ l.initial.seat.me.1) × Appended l.initial.seat.me.0 (g.B.Book.history l.fn.book) l._made l.seat.me.0
