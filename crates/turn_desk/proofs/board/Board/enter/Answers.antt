use Rattle.std.proofs.Common.{rules, ℕ, ◌%◌, ◌^◌, ◌∷◌, ◌∙◌, ap, sym, Some}
use Rattle.atomic_table.specs.Table.{rest}
use Rattle.turn_desk.specs.Views.{ticket_of}
use Rattle.turn_desk.proofs.board.Board.enter.Goals as goal

pub exchange-requires : goal.exchange-requires
exchange-requires g c =
    let d = c.draw-ticket.ensures.drawn in
    let tick = ap (λ m. ticket_of m.0.stage) c.loop.invariant.2 ∙ ap (λ v. ticket_of v.stage) d.2 in
    let mine = c.look-served.ensures.own (c.if-served-ticket.true ∙ (d.1 ∙ ap (λ (z : ℕ). z % 2 ^ 64) (sym tick))) in
    (search rules, (Some mine.0, ap (λ m. m.1) mine.1 ∙ ap (λ z. (0, Some mine.0) ∷ z) (sym (ap (λ m. rest m.1) mine.1))))
