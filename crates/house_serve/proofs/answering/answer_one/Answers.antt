use Rattle.std.proofs.Common.{sym, ◌∙◌, refl, subst, Some, None, [], ◌∷◌, List, ℕ}
use Rattle.house_serve.specs.declared.ends.SessionEnd.{SessionEnd}
use Rattle.house_serve.specs.declared.ends.SessionEnd.TheVariants as ends
use Rattle.house_serve.specs.declared.answering.Cut.TheVariants as cut
use Rattle.house_serve.specs.Ends.{end_by}
use Rattle.report_wire.specs.Frames.{spelled}
use Rattle.report_wire.specs.Messages.{bidder_sent}
use Rattle.house_serve.specs.Pieces.{Answers}
use Rattle.house_serve.proofs.Behind.{one_goes, one_ends, end_writes}
use Rattle.house_serve.proofs.Turned.{one, sent_whole, cut_short, left_out, sent_as}
use Rattle.house_serve.proofs.answering.answer_one.Goals as goal

pub returns-in-Err-LinkFault-clause-answers : goal.returns-in-Err-LinkFault-clause-answers
returns-in-Err-LinkFault-clause-answers g c =
    let turn = c.answer-answer.ensures.turn in
    let text : List ℕ = spelled (bidder_sent c.answer-answer.result.reply) in
    one g.H.Hall.allows c.args.auction.now c.args.frame c.args.session.now c.answer-answer.new.self _ _ (g.L.Link.told c.args.link.now) (g.L.Link.told c.send_reply.new.link) c.answer-answer.result.reply turn.0 (Some ends.LinkFault) turn.1 c.answer-answer.ensures.formed c.answer-answer.ensures.goes.1 tt
    (cut_short (g.L.Link.told c.args.link.now) (g.L.Link.told c.send_reply.new.link) text (Some ends.LinkFault) (λ given more same. (more, same)) (sent_as (g.L.Link.told c.args.link.now) (g.L.Link.told c.send_reply.new.link) text c.in-Err-LinkFault.field-0 cut.LinkFault c.in-Err-LinkFault.field-0-is c.in-Err-LinkFault.ensures.sent))

pub returns-in-Err-NoMemory-clause-answers : goal.returns-in-Err-NoMemory-clause-answers
returns-in-Err-NoMemory-clause-answers g c =
    let turn = c.answer-answer.ensures.turn in
    let text : List ℕ = spelled (bidder_sent c.answer-answer.result.reply) in
    one g.H.Hall.allows c.args.auction.now c.args.frame c.args.session.now c.answer-answer.new.self _ _ (g.L.Link.told c.args.link.now) (g.L.Link.told c.send_reply.new.link) c.answer-answer.result.reply turn.0 (Some ends.NoMemory) turn.1 c.answer-answer.ensures.formed c.answer-answer.ensures.goes.1 tt
    (left_out (g.L.Link.told c.args.link.now) (g.L.Link.told c.send_reply.new.link) text (Some ends.NoMemory) (text, refl) (sent_as (g.L.Link.told c.args.link.now) (g.L.Link.told c.send_reply.new.link) text c.in-Err-NoMemory.field-0 cut.NoMemory c.in-Err-NoMemory.field-0-is c.in-Err-NoMemory.ensures.sent))

pub returns-then-answer-clause-answers : goal.returns-then-answer-clause-answers
returns-then-answer-clause-answers g c =
    let turn = c.answer-answer.ensures.turn in
    let text : List ℕ = spelled (bidder_sent c.answer-answer.result.reply) in
    one g.H.Hall.allows c.args.auction.now c.args.frame c.args.session.now c.answer-answer.new.self _ _ (g.L.Link.told c.args.link.now) (g.L.Link.told c.send_reply.new.link) c.answer-answer.result.reply turn.0 None turn.1 c.answer-answer.ensures.formed c.answer-answer.ensures.goes.1
    (one_goes c.args.auction.now c.args.frame c.args.session.now (sym c.answer-answer.ensures.goes.0 ∙ c.if-answer.true))
    (sent_whole (g.L.Link.told c.args.link.now) (g.L.Link.told c.send_reply.new.link) text None refl c.in-Ok.ensures.sent)

pub returns-clause-answers : goal.returns-clause-answers
returns-clause-answers g c =
    let turn = c.answer-answer.ensures.turn in
    let text : List ℕ = spelled (bidder_sent c.answer-answer.result.reply) in
    subst (λ (e : SessionEnd). Answers g.H.Hall.allows c.args.auction.now (c.args.frame ∷ []) c.args.session.now (g.H.Hall.meaning c.args.hall.now) (g.L.Link.told c.args.link.now) c.answer-answer.new.self (g.H.Hall.meaning c.answer-answer.new.hall) (g.L.Link.told c.send_reply.new.link) (Some e)) (sym c.end_by-end.ensures)
    (one g.H.Hall.allows c.args.auction.now c.args.frame c.args.session.now c.answer-answer.new.self _ _ (g.L.Link.told c.args.link.now) (g.L.Link.told c.send_reply.new.link) c.answer-answer.result.reply turn.0 (Some (end_by c.args.frame)) turn.1 c.answer-answer.ensures.formed c.answer-answer.ensures.goes.1
    (one_ends c.args.auction.now c.args.frame c.args.session.now (sym c.answer-answer.ensures.goes.0 ∙ c.if-answer.false))
    (sent_whole (g.L.Link.told c.args.link.now) (g.L.Link.told c.send_reply.new.link) text (Some (end_by c.args.frame)) (end_writes c.args.frame text) c.in-Ok.ensures.sent))
