use Rattle.std.proofs.Common.{rules}
use Rattle.turn_desk.proofs.Tickets.{draws}
use Rattle.turn_desk.proofs.board.Board.draw.Goals as goal

pub fetch_add-requires : goal.fetch_add-requires
fetch_add-requires g c = (search rules, search rules, draws _ _ _ _ _ _ _ c.requires.rests.0 c.requires.rests.1)
