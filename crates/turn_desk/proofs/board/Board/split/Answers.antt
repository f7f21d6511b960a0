use Rattle.std.proofs.Common.{rules}
use Rattle.turn_desk.proofs.Seats.{splits}
use Rattle.turn_desk.proofs.board.Board.split.Goals as goal

pub split_seat-requires : goal.split_seat-requires
split_seat-requires g c = (c.requires.desk, search rules, splits _ _ _ _ _ _ c.requires.made.0 c.requires.made.1 c.requires.made.2)
