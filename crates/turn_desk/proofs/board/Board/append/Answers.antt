use Rattle.std.proofs.Common.{rules}
use Rattle.turn_desk.proofs.Entries.{appends}
use Rattle.turn_desk.proofs.board.Board.append.Goals as goal

pub fetch_add-requires : goal.fetch_add-requires
fetch_add-requires g c = (search rules, search rules, appends _ _ _ _ _ _ _ c.requires.more.0 c.requires.turn c.requires.more.1)
