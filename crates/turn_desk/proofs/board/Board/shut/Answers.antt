use Rattle.std.proofs.Common.{rules, ◌≡◌, subst}
use Rattle.turn_desk.proofs.Endings.{ends_with}
use Rattle.turn_desk.specs.Steps.{Ends}
use Rattle.turn_desk.proofs.board.Board.shut.Goals as goal

pub unwrap-requires : goal.unwrap-requires
unwrap-requires g c =
    let end = ends_with g.B.Book.history g.B.Book.origin g.B.Book.gauge c.args.self.table.shared.key.value c.args.seat.id c.args.seat.me.0 _ _ c.take-book.result c.requires.all.0 c.requires.all.1 c.requires.all.2 c.close_with-closed.ensures.values.2 c.take-book.ensures.value in search rules

pub returns : goal.returns
returns g c =
    let end = ends_with g.B.Book.history g.B.Book.origin g.B.Book.gauge c.args.self.table.shared.key.value c.args.seat.id c.args.seat.me.0 _ _ c.take-book.result c.requires.all.0 c.requires.all.1 c.requires.all.2 c.close_with-closed.ensures.values.2 c.take-book.ensures.value in
    let same : end.0 ≡ c.unwrap.result = cc (end.1, c.unwrap.ensures) in subst (Ends g.B.Book.history g.B.Book.origin c.args.self.table.shared.key.value c.args.seat.me.0) same end.2
