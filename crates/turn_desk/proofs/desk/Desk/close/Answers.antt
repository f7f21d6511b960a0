use Rattle.std.proofs.Common.{ap, subst}
use Rattle.turn_desk.proofs.Gathering.{closes}
use Rattle.turn_desk.specs.Steps.{Ends}
use Rattle.turn_desk.proofs.desk.Desk.close.Goals as goal

pub returns : goal.returns
returns g c =
    let first = ap (λ d. d.book) c.self.view_is in
    closes g.B.Book.history g.B.Book.origin c.args.self.book c.gather-seat.result.me.0 _ c.shut.result c.gather-seat.ensures.all (subst (λ b. Ends g.B.Book.history g.B.Book.origin b c.gather-seat.result.me.0 c.shut.result) first c.shut.ensures)
