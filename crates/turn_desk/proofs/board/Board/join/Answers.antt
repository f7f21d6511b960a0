use Rattle.std.proofs.Common.{rules}
use Rattle.turn_desk.proofs.Seats.{joins}
use Rattle.turn_desk.proofs.board.Board.join.Goals as goal

pub join_seat-requires : goal.join_seat-requires
join_seat-requires g c = (c.requires.desk.0, c.requires.desk.1, c.requires.rests.1, search rules, joins _ _ _ _ _ _ _ _ c.requires.part c.requires.rests.0)
