use Rattle.std.proofs.Common.{rules}
use Rattle.turn_desk.proofs.Tickets.{looks}
use Rattle.turn_desk.proofs.board.Board.look.Goals as goal

pub load-requires : goal.load-requires
load-requires g c = (search rules, search rules, looks _ _ _ _ _ _ _ c.requires.waits.0 c.requires.waits.1)
