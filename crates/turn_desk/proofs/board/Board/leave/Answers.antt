use Rattle.std.proofs.Common.{rules, arith, [], ◌∷◌, ◌++◌, ◌∙◌, ap, sym, subst, Some}
use Rattle.atomic_table.specs.Table.{rest}
use Rattle.turn_desk.specs.Histories.{StartsWith}
use Rattle.turn_desk.specs.Views.{reached}
use Rattle.turn_desk.specs.Steps.{in_hand, rested}
use Rattle.turn_desk.proofs.Growth.{none_from, append_one, given_from, more_from}
use Rattle.turn_desk.proofs.board.Board.leave.Goals as goal

pub loop-made-init : goal.loop-made-init
loop-made-init g c = let x = c.requires.goes_on in (
  search rules,
  search rules,
  search rules,
  none_from c.args.seat.now.me.0 c.exchange.new.seat.me.0 (g.B.Book.history c.args.book) x.0 (ap (λ m. m.0) c.exchange.ensures.3) c.requires.turn.0 c.requires.turn.1 x.1,
)

pub append-requires-clause-more : goal.append-requires-clause-more
append-requires-clause-more g c =
    let e = c.exchange.ensures in let x = c.requires.goes_on in
    let found = more_from c.args.seat.now.me.0 c.exchange.new.seat.me.0 c.loop-made.seat.me.0 (g.B.Book.history c.args.book) x.0 c.loop-made._made c.args.more (ap (λ m. m.0) e.3) c.requires.turn.0 c.requires.turn.1 x.1 x.2 c.loop-made.invariant.3 c.loop-made-test.true in
    (found.0, subst (λ z. StartsWith z (reached c.loop-made.seat.me.0.stage ++ found.0 ∷ [])) (sym (ap (in_hand g.B.Book.history) (c.loop-made.invariant.2 ∙ ap (λ m. m.1) e.3))) found.1)

pub loop-made-preserved : goal.loop-made-preserved
loop-made-preserved g c =
    let e = c.exchange.ensures in let s = c.append.ensures.same in let i = c.loop-made.invariant in let a = c.append.ensures.grown in (
      s.0 ∙ i.0,
      s.1 ∙ i.1,
      s.2 ∙ i.2,
      append_one c.exchange.new.seat.me.0 c.loop-made.seat.me.0 c.append.new.seat.me.0 (g.B.Book.history c.args.book) c.loop-made._made a.0 i.3
          (subst (λ z. StartsWith z (reached c.loop-made.seat.me.0.stage ++ a.0 ∷ [])) (ap (in_hand g.B.Book.history) (i.2 ∙ ap (λ m. m.1) e.3)) a.1) a.2,
    )

pub tell-requires-clause-book : goal.tell-requires-clause-book
tell-requires-clause-book g c =
    let e = c.exchange.ensures in let x = c.requires.goes_on in let i = c.loop-made.invariant in
    let end = given_from c.args.seat.now.me.0 c.exchange.new.seat.me.0 c.loop-made.seat.me.0 (g.B.Book.history c.args.book) x.0 c.loop-made._made c.args.more (ap (λ m. m.0) e.3) c.requires.turn.0 c.requires.turn.1 x.1 x.2 i.3 (omega arith) in
    (c.args.book, end.0, ap (λ z. z.origin) i.3.is ∙ (ap (λ m. m.0.origin) e.3 ∙ c.requires.origin), search rules)

pub pass_on-served-requires-clause-book : goal.pass_on-served-requires-clause-book
pass_on-served-requires-clause-book g c =
    let e = c.exchange.ensures in let x = c.requires.goes_on in let i = c.loop-made.invariant in let t = c.tell.ensures.told in
    let end = given_from c.args.seat.now.me.0 c.exchange.new.seat.me.0 c.loop-made.seat.me.0 (g.B.Book.history c.args.book) x.0 c.loop-made._made c.args.more (ap (λ m. m.0) e.3) c.requires.turn.0 c.requires.turn.1 x.1 x.2 i.3 (omega arith) in (
      c.args.book,
      ap (λ m. m.1) t ∙ (i.2 ∙ (ap (λ m. m.1) e.3 ∙ ap (λ z. (0, Some c.args.book) ∷ rest z) c.requires.turn.2)),
      end.0 ∙ ap (λ m. reached m.0.stage) (sym t),
      ap (λ m. m.0.origin) t ∙ (ap (λ z. z.origin) i.3.is ∙ (ap (λ m. m.0.origin) e.3 ∙ c.requires.origin)),
    )

pub pass_on-served-requires-clause-told : goal.pass_on-served-requires-clause-told
pass_on-served-requires-clause-told g c = let t = c.tell.ensures.told in ap (λ m. m.0.seen) t ∙ ap (λ m. reached m.0.stage) (sym t)

pub returns-clause-given : goal.returns-clause-given
returns-clause-given g c =
    let e = c.exchange.ensures in let x = c.requires.goes_on in let i = c.loop-made.invariant in
    let end = given_from c.args.seat.now.me.0 c.exchange.new.seat.me.0 c.loop-made.seat.me.0 (g.B.Book.history c.args.book) x.0 c.loop-made._made c.args.more (ap (λ m. m.0) e.3) c.requires.turn.0 c.requires.turn.1 x.1 x.2 i.3 (omega arith) in
    ap (λ m. m.0) c.pass_on-served.ensures.rests ∙ (ap (λ m. rested m.0) c.tell.ensures.told ∙ end.1)
