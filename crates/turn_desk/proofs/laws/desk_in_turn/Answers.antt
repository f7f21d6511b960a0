use Rattle.turn_desk.proofs.Endings.{in_turn}
use Rattle.turn_desk.proofs.laws.desk_in_turn.Goals as goal

pub returns : goal.returns
returns g c = λ first place w s keeps at holds. in_turn g.B.Book.history g.B.Book.origin g.B.Book.gauge first place w s keeps at holds
