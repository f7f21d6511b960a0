use Rattle.std.proofs.Common.{rules}
use Rattle.turn_desk.proofs.Gauges.{tells}
use Rattle.turn_desk.proofs.board.Board.tell.Goals as goal

pub store-requires : goal.store-requires
store-requires g c = let b = c.requires.book in (search rules, search rules, tells _ _ _ _ _ _ _ _ b.0 c.requires.turn b.1 b.2 b.3)
