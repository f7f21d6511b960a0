use Rattle.std.proofs.Common.{sym, subst, arith}
use Rattle.std.proofs.lemmas.Result.{err_from_is_err_and}
use Rattle.bidder_agent.specs.Talks.{part}
use Rattle.bidder_agent.specs.Underway.{Visited}
use Rattle.bidder_agent.specs.declared.knowing.Known.{Known}
use Rattle.bidder_agent.proofs.Visits.{below_behind, look_ends, closed_seen, closed_starved, looks_spent, reported_already, report_ends, report_done}
use Rattle.bidder_agent.proofs.visiting.visit.Goals as goal

pub returns-in_err-look-clause-visits : goal.returns-in_err-look-clause-visits
returns-in_err-look-clause-visits g c =
    let exit = err_from_is_err_and c.from_residual.result c.from_residual.ensures.1 in
    rw (exit.1, exit.2) (λ talk told stands next knows going.
    look_ends (part c.args.auction.now c.args.bidder c.args.token.now (g.D.Demands.demands c.args.demands.now) c.args.looks) talk c.args.clock c.args.before.now c.args.seen.now.items told (g.L.Link.told c.args.link.now) (g.L.Link.told c.look_at.new.link) stands next knows going c.in_err-look.field-0.0 c.in_err-look.ensures.look)

pub returns-in-Ok-clause-visits : goal.returns-in-Ok-clause-visits
returns-in-Ok-clause-visits g c =
    λ talk told stands next knows going.
    closed_seen (part c.args.auction.now c.args.bidder c.args.token.now (g.D.Demands.demands c.args.demands.now) c.args.looks) talk c.args.clock c.args.before.now c.args.seen.now.items told (g.L.Link.told c.args.link.now) (g.L.Link.told c.look_at.new.link) stands next knows going c.in_ok-look.look c.in_ok-look.ensures.look c.after_look-known.result c.after_look-known.ensures c.if-known.true c.push.new.self.items
    (let b = c.requires.below in omega (arith, b)) c.in-Ok.ensures.items

pub returns-in-Err-clause-visits : goal.returns-in-Err-clause-visits
returns-in-Err-clause-visits g c =
    λ talk told stands next knows going.
    closed_starved (part c.args.auction.now c.args.bidder c.args.token.now (g.D.Demands.demands c.args.demands.now) c.args.looks) talk c.args.clock c.args.before.now c.args.seen.now.items told (g.L.Link.told c.args.link.now) (g.L.Link.told c.look_at.new.link) stands next knows going c.in_ok-look.look c.in_ok-look.ensures.look c.after_look-known.result c.after_look-known.ensures c.if-known.true
    (let b = c.requires.below in omega (arith, b))

pub returns-then-known-looks-clause-visits : goal.returns-then-known-looks-clause-visits
returns-then-known-looks-clause-visits g c =
    λ talk told stands next knows going.
    looks_spent (part c.args.auction.now c.args.bidder c.args.token.now (g.D.Demands.demands c.args.demands.now) c.args.looks) talk c.args.clock c.args.before.now c.args.seen.now.items told (g.L.Link.told c.args.link.now) (g.L.Link.told c.look_at.new.link) stands next knows going c.in_ok-look.look c.in_ok-look.ensures.look c.after_look-known.result c.after_look-known.ensures c.if-known.false c.if-known-looks.true

pub returns-then-known-2-clause-visits : goal.returns-then-known-2-clause-visits
returns-then-known-2-clause-visits g c =
    λ talk told stands next knows going.
    reported_already (part c.args.auction.now c.args.bidder c.args.token.now (g.D.Demands.demands c.args.demands.now) c.args.looks) talk c.args.clock c.args.before.now c.args.seen.now.items told (g.L.Link.told c.args.link.now) (g.L.Link.told c.look_at.new.link) stands next knows going c.in_ok-look.look c.in_ok-look.ensures.look c.after_look-known.result c.after_look-known.ensures c.if-known.false c.if-known-2.true (below_behind c.args.looks c.in_ok-look.look.round c.in_ok-look.look.phase c.args.before.now c.after_look-known.result c.after_look-known.ensures c.requires.below c.if-known-looks.false)

pub returns-clause-visits : goal.returns-clause-visits
returns-clause-visits g c =
    λ talk told stands next knows going.
    subst (λ (x : Known). Visited (part c.args.auction.now c.args.bidder c.args.token.now (g.D.Demands.demands c.args.demands.now) c.args.looks) talk c.args.clock c.args.seen.now.items told (g.L.Link.told c.report.new.link) x) (sym c.after_report.ensures)
    (report_done (part c.args.auction.now c.args.bidder c.args.token.now (g.D.Demands.demands c.args.demands.now) c.args.looks) talk c.args.clock c.args.before.now c.args.seen.now.items told (g.L.Link.told c.args.link.now) (g.L.Link.told c.look_at.new.link) stands next knows going c.in_ok-look.look c.in_ok-look.ensures.look c.after_look-known.result c.after_look-known.ensures c.if-known.false c.if-known-2.false (below_behind c.args.looks c.in_ok-look.look.round c.in_ok-look.look.phase c.args.before.now c.after_look-known.result c.after_look-known.ensures c.requires.below c.if-known-looks.false)
    (g.L.Link.told c.report.new.link) c.in_ok-report.ensures.done.0 c.in_ok-report.ensures.done.1)

pub returns-in_err-report-clause-visits : goal.returns-in_err-report-clause-visits
returns-in_err-report-clause-visits g c =
    let exit = err_from_is_err_and c.from_residual-in_err-report.result c.from_residual-in_err-report.ensures.1 in
    rw (exit.1, exit.2) (λ talk told stands next knows going.
    report_ends (part c.args.auction.now c.args.bidder c.args.token.now (g.D.Demands.demands c.args.demands.now) c.args.looks) talk c.args.clock c.args.before.now c.args.seen.now.items told (g.L.Link.told c.args.link.now) (g.L.Link.told c.look_at.new.link) stands next knows going c.in_ok-look.look c.in_ok-look.ensures.look c.after_look-known.result c.after_look-known.ensures c.if-known.false c.if-known-2.false (below_behind c.args.looks c.in_ok-look.look.round c.in_ok-look.look.phase c.args.before.now c.after_look-known.result c.after_look-known.ensures c.requires.below c.if-known-looks.false)
    (g.L.Link.told c.report.new.link) c.in_err-report.field-0.0 c.in_err-report.ensures.done)
