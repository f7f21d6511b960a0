use Rattle.std.proofs.Common.{rules}
use Rattle.turn_desk.proofs.Tickets.{passes}
use Rattle.turn_desk.proofs.board.Board.pass_on.Goals as goal

pub fetch_add-requires : goal.fetch_add-requires
fetch_add-requires g c = (search rules, search rules, passes _ _ _ _ _ _ _ c.requires.book.0 c.requires.turn c.requires.book.1 c.requires.book.2 c.requires.book.3 c.requires.told)
