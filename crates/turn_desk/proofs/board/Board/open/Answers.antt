use Rattle.std.proofs.Common.{rules}
use Rattle.turn_desk.proofs.Endings.{opens}
use Rattle.turn_desk.proofs.board.Board.open.Goals as goal

pub new-requires : goal.new-requires
new-requires g c = opens g.B.Book.history g.B.Book.origin g.B.Book.gauge c.of-about.result.value c.length-count.result c.gauge-gauge.result c.push.new.self.items (search rules) (search rules) (search rules)
