use Rattle.turn_desk.proofs.Endings.{at_home}
use Rattle.turn_desk.proofs.laws.desk_at_home.Goals as goal

pub returns : goal.returns
returns g c = λ first book s keeps lies. at_home g.B.Book.history g.B.Book.origin g.B.Book.gauge first book s keeps lies
