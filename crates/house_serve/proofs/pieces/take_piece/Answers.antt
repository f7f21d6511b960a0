use Rattle.std.proofs.Common.{◌∙◌, sym}
use Rattle.house_serve.proofs.Taking.{takes_none, takes_end, takes_on, takes_fault}
use Rattle.house_serve.proofs.pieces.take_piece.Goals as goal

pub returns-in-Err-clause-takes : goal.returns-in-Err-clause-takes
returns-in-Err-clause-takes g c = takes_none g.H.Hall.allows c.args.auction.now c.args.piece.now c.args.reader.now c.feed.new.self c.args.session.now (g.H.Hall.meaning c.args.hall.now) (g.L.Link.told c.args.link.now)

pub returns-in-Some-clause-takes : goal.returns-in-Some-clause-takes
returns-in-Some-clause-takes g c =
    takes_end g.H.Hall.allows c.args.auction.now c.args.piece.now c.args.reader.now c.feed.new.self c.in-Ok.feed.frames.items (c.in-Ok.ensures.reads c.requires.whole) (c.in-Ok.ensures.place c.requires.whole)
    c.args.session.now c.answer_all.new.session (g.H.Hall.meaning c.args.hall.now) (g.H.Hall.meaning c.answer_all.new.hall) (g.L.Link.told c.args.link.now) (g.L.Link.told c.answer_all.new.link) c.in-Some.end
    c.in-Some.ensures.answers

pub returns-in-Some-fault-clause-takes : goal.returns-in-Some-fault-clause-takes
returns-in-Some-fault-clause-takes g c =
    takes_fault g.H.Hall.allows c.args.auction.now c.args.piece.now c.args.reader.now c.feed.new.self c.in-Ok.feed.frames.items (c.in-Ok.ensures.reads c.requires.whole) (c.in-Ok.ensures.place c.requires.whole)
    c.args.session.now c.answer_all.new.session (g.H.Hall.meaning c.args.hall.now) (g.H.Hall.meaning c.answer_all.new.hall) (g.L.Link.told c.args.link.now) (g.L.Link.told c.answer_all.new.link)
    c.in_default.ensures.answers
    c.in-Some-fault.fault (sym c.in-Ok.ensures.fault ∙ c.in-Some-fault.is) (g.L.Link.told c.answer_fault.new.link) c.answer_fault.result c.answer_fault.ensures.sent c.answer_fault.ensures.midway

pub returns-in-None-clause-takes : goal.returns-in-None-clause-takes
returns-in-None-clause-takes g c =
    takes_on g.H.Hall.allows c.args.auction.now c.args.piece.now c.args.reader.now c.feed.new.self c.in-Ok.feed.frames.items (c.in-Ok.ensures.reads c.requires.whole) (c.in-Ok.ensures.place c.requires.whole)
    c.args.session.now c.answer_all.new.session (g.H.Hall.meaning c.args.hall.now) (g.H.Hall.meaning c.answer_all.new.hall) (g.L.Link.told c.args.link.now) (g.L.Link.told c.answer_all.new.link)
    c.in_default.ensures.answers
    (sym c.in-Ok.ensures.fault ∙ c.in-None.is)
