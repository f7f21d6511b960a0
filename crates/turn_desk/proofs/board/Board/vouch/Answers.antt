use Rattle.std.proofs.Common.{rules}
use Rattle.turn_desk.proofs.Seats.{witnesses}
use Rattle.turn_desk.proofs.board.Board.vouch.Goals as goal

pub split_seat-requires : goal.split_seat-requires
split_seat-requires g c = (search rules, search rules, witnesses _ _ _ _ _ _)
