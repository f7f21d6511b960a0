use Rattle.std.proofs.Common.{sym, ◌∙◌, Some, ap, ℕ, Option, cond}
use Rattle.session.specs.declared.table.Line.TheVariants.{Asks}
use Rattle.session.specs.Table.{line_of}
use Rattle.session.proofs.Answering.{says_on, says_who, turn_asked}
use Rattle.session.proofs.sessions.Session.answer.Goals as goal

pub returns-in-Says-clause-goes : goal.returns-in-Says-clause-goes
returns-in-Says-clause-goes g c =
    let on = c.in-Says.goes_on in
    let seen = ap (λ (w : Option ℕ). line_of c.args.auction.now w c.args.frame) c.self.view_is in
    let said = sym c.in-Says.is ∙ c.line_for.ensures.line ∙ seen in (
      says_on c.args.auction.now c.args.self.now c.args.frame c.in-Says.reply on said,
      c.greet.ensures ∙ ap (λ (b : Option ℕ). cond on b c.args.self.now) c.greeted-greeted.ensures ∙ says_who c.args.auction.now c.args.self.now c.args.frame c.in-Says.reply on said,
    )

pub returns-in-Asks-clause-turn : goal.returns-in-Asks-clause-turn
returns-in-Asks-clause-turn g c =
    let a = c.ask.ensures.answer in
    let seen = ap (λ (w : Option ℕ). line_of c.args.auction.now w c.args.frame) c.self.view_is in
    (Some a.0, turn_asked g.H.Hall.allows c.args.auction.now c.args.self.now c.args.frame a.0 c.ask.result _ _ (ap Asks a.1 ∙ sym c.in-Asks.is ∙ c.line_for.ensures.line ∙ seen) a.2 a.3 a.4)
