use Rattle.std.proofs.Common.{rules}
use Rattle.turn_desk.proofs.Gauges.{glances}
use Rattle.turn_desk.proofs.board.Board.glance.Goals as goal

pub load-requires : goal.load-requires
load-requires g c = (search rules, search rules, glances _ _ _ _ _ _ _ c.requires.rests.1)
