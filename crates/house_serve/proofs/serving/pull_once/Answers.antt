use Rattle.std.proofs.Common.{◌<◌, subst, arith, length, ℕ}
use Rattle.std.specs.Prelude.{Ok}
use Rattle.house_io.specs.Told.{IfTold}
use Rattle.house_io.specs.Links.{Receives}
use Rattle.house_serve.proofs.Pulling.{closed, failed, went, ended}
use Rattle.house_serve.proofs.serving.pull_once.Goals as goal

pub returns-in-Ok-eq0-clause-steps : goal.returns-in-Ok-eq0-clause-steps
returns-in-Ok-eq0-clause-steps g c =
    let k = c.rest.ensures.kept c.requires.whole in
    let room : 0 < length c.pull.new.into = (let r = c.requires.room in let s = c.pull.auto.into in omega arith) in
    closed g.H.Hall.allows c.args.auction.now c.args.reader.now c.pull.new.into c.args.session.now (g.H.Hall.meaning c.args.hall.now) (g.L.Link.told c.args.link.now) (g.L.Link.told c.pull.new.self) c.rest.result room k.0 k.1
    (subst (λ (n : ℕ). IfTold (g.L.Link.told c.args.link.now) (g.L.Link.told c.pull.new.self) (Receives (Ok n) c.pull.new.into)) c.in-Ok-eq0.field-0-test c.in-Ok-eq0.ensures.bytes)

pub returns-in-Err-clause-steps : goal.returns-in-Err-clause-steps
returns-in-Err-clause-steps g c =
    failed g.H.Hall.allows c.args.auction.now c.args.reader.now c.pull.new.into c.args.session.now (g.H.Hall.meaning c.args.hall.now) (g.L.Link.told c.args.link.now) (g.L.Link.told c.pull.new.self) c.in-Err.field-0 c.in-Err.ensures.bytes

pub returns-in-Some-clause-steps : goal.returns-in-Some-clause-steps
returns-in-Some-clause-steps g c =
    ended g.H.Hall.allows c.args.auction.now c.args.reader.now c.pull.new.into c.args.session.now (g.H.Hall.meaning c.args.hall.now) (g.L.Link.told c.args.link.now) (g.L.Link.told c.pull.new.self) c.take_piece.new.reader c.in-Ok.count c.in-Ok.ensures.within
    c.take_piece.new.session (g.H.Hall.meaning c.take_piece.new.hall) (g.L.Link.told c.take_piece.new.link) c.in-Ok.ensures.bytes c.in-Some.end c.in-Some.ensures.takes

pub returns-in-None-clause-steps : goal.returns-in-None-clause-steps
returns-in-None-clause-steps g c =
    let some : 0 < c.in-Ok.count = (let t = c.in-Ok.count-test in omega arith) in
    went g.H.Hall.allows c.args.auction.now c.args.reader.now c.pull.new.into c.args.session.now (g.H.Hall.meaning c.args.hall.now) (g.L.Link.told c.args.link.now) (g.L.Link.told c.pull.new.self) c.take_piece.new.reader c.in-Ok.count c.in-Ok.ensures.within
    c.take_piece.new.session (g.H.Hall.meaning c.take_piece.new.hall) (g.L.Link.told c.take_piece.new.link) c.in-Ok.ensures.bytes some c.in-None.ensures.takes
