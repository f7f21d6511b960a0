use Rattle.std.proofs.Common.{◌≤◌, ◌∙◌, refl, sym, subst, arith, rules, length, Option, ℕ}
use Rattle.report_wire.specs.Reading.{ReaderState, fresh}
use Rattle.session.specs.Asking.{IsBidder}
use Rattle.house_serve.specs.Serving.{Underway}
use Rattle.house_serve.proofs.Whole.{begun, on, whole_end, spent}
use Rattle.house_serve.proofs.serving.serve_pieces.Goals as goal

pub pieces-init : goal.pieces-init
pieces-init g c =
    let m = g.H.Hall.meaning c.args.hall.now in
    let t = g.L.Link.told c.args.link.now in
    record {
      underway = subst (λ (r : ReaderState). Underway g.H.Hall.allows c.args.auction.now (g.H.Hall.meaning c.args.hall.now) (g.H.Hall.meaning c.args.hall.now) c.new-session.result r 0 (g.L.Link.told c.args.link.now) (g.L.Link.told c.args.link.now)) (sym c.new-reader.ensures)
          (subst (λ (w : Option ℕ). Underway g.H.Hall.allows c.args.auction.now (g.H.Hall.meaning c.args.hall.now) (g.H.Hall.meaning c.args.hall.now) w fresh 0 (g.L.Link.told c.args.link.now) (g.L.Link.told c.args.link.now)) (sym c.new-session.ensures) (begun g.H.Hall.allows c.args.auction.now m t));
      seated = record {
        bidder = subst (IsBidder c.args.auction.now.terms.bidders) (sym c.new-session.ensures) tt;
        order = c.requires.order;
        hall = c.requires.hall;
      };
      stays = g.met.H.Hall.stays_still c.args.hall.now;
      cause = refl;
      small = omega arith;
      piece = c.requires.chunk;
    }

pub pieces-preserved : goal.pieces-preserved
pieces-preserved g c =
    let i = c.pieces.invariant in
    let s = c.in-Went.ensures.steps in
    let le : c.in-Went.count ≤ length c.pull_once.new.chunk = s.1 in
    let size = c.pull_once.auto.chunk in
    let room = c.min-room.ensures in
    let below = c.pieces-test.true in
    record {
      underway = on g.H.Hall.allows c.args.auction.now (g.H.Hall.meaning c.args.hall.now) (g.H.Hall.meaning c.pieces.hall) c.pieces.session c.pieces.reader c.pieces.taken (g.L.Link.told c.args.link.now) (g.L.Link.told c.pieces.link) i.underway
          c.pull_once.new.reader c.pull_once.new.session (g.H.Hall.meaning c.pull_once.new.hall) (g.L.Link.told c.pull_once.new.link) (length c.pull_once.new.chunk) c.in-Went.count s;
      seated = c.pull_once.ensures.seated;
      stays = g.met.H.Hall.stays_along c.args.hall.now c.pieces.hall c.pull_once.new.hall i.stays c.pull_once.ensures.stays;
      cause = c.in-Went.ensures.cause ∙ i.cause;
      small = (let fits : length c.pull_once.new.chunk ≤ c.min-room.result = search rules in omega arith);
      piece = search rules;
    }

pub returns-in-Ended-clause-session : goal.returns-in-Ended-clause-session
returns-in-Ended-clause-session g c =
    let i = c.pieces.invariant in
    let size = c.pull_once.auto.chunk in
    let room = c.min-room.ensures in
    let below = c.pieces-test.true in
    whole_end g.H.Hall.allows c.args.auction.now (g.H.Hall.meaning c.args.hall.now) (g.H.Hall.meaning c.pieces.hall) c.pieces.session c.pieces.reader c.pieces.taken (g.L.Link.told c.args.link.now) (g.L.Link.told c.pieces.link) i.underway
    c.pull_once.new.session (g.H.Hall.meaning c.pull_once.new.hall) (g.L.Link.told c.pull_once.new.link) (length c.pull_once.new.chunk) c.in-Ended.end (let fits : length c.pull_once.new.chunk ≤ c.min-room.result = search rules in omega arith) (omega arith) (let fits : length c.pull_once.new.chunk ≤ c.min-room.result = search rules in omega arith) c.in-Ended.ensures.steps

pub returns-clause-session : goal.returns-clause-session
returns-clause-session g c =
    let i = c.pieces.invariant in
    let above = c.pieces-test.false in
    let small = i.small in
    spent g.H.Hall.allows c.args.auction.now (g.H.Hall.meaning c.args.hall.now) (g.H.Hall.meaning c.pieces.hall) c.pieces.session c.pieces.reader c.pieces.taken (g.L.Link.told c.args.link.now) (g.L.Link.told c.pieces.link) i.underway (omega arith)
