-- A link is dialled, the part is played over it, and it is hung up.
use Rattle.std.proofs.Common.{Ok, inl, inr, subst, sym}
use Rattle.command_line.specs.CommandView.{bidding_as}
use Rattle.house_io.specs.NetsShown.{net_shown}
use Rattle.house_run.specs.Dialling.{LeavesTalk, TalksOn, part_in}
use Rattle.house_run.specs.Nets.{NetSeen, net_seen_by}
use Rattle.house_run.specs.Steps.{IsTalkEnd, NetCounts}
use Rattle.house_run.specs.declared.ends.Ended.{Ended}
use Rattle.house_run.specs.declared.ends.Ended.TheVariants as how
use Rattle.house_run.proofs.NetsSeen.{as-shown}
use Rattle.house_run.proofs.Talking.{dialled, quiet-counts, refused-counts, refused-ends, same-count, stopped, undialled}
use Rattle.house_run.proofs.dialling.talk.Goals as goal

pub returns-in-Err-clause-ends : goal.returns-in-Err-clause-ends
returns-in-Err-clause-ends g c =
    let market = c.args.market.now in
    let b = bidding_as c.args.bidding.now in
    let part = part_in market.auction.terms market.valuations.items b in
    let other = net_shown g.N.Net.told g.N.Door.Door.told g.N.Door.Link.Link.told g.N.Door.Link.Link.faults g.N.Link.Link.told g.N.Net.faults in
    let net = net_seen_by other c.args.net.now c.dial.new.self in
    let shows = as-shown g.N.Net.shown other g.met.N.Net.shows c.args.net.now c.dial.new.self in
    subst (λ (n : NetSeen). IsTalkEnd n b.address part c.net_end.result) shows
    (subst (IsTalkEnd net b.address part) (sym c.net_end.ensures) (refused-ends c.in-Err.refusal net b.address part c.in-Err.ensures.cause.refused))

pub returns-in-Err-clause-left : goal.returns-in-Err-clause-left
returns-in-Err-clause-left g c =
    let market = c.args.market.now in
    let b = bidding_as c.args.bidding.now in
    let part = part_in market.auction.terms market.valuations.items b in
    let other = net_shown g.N.Net.told g.N.Door.Door.told g.N.Door.Link.Link.told g.N.Door.Link.Link.faults g.N.Link.Link.told g.N.Net.faults in
    let shows = as-shown g.N.Net.shown other g.met.N.Net.shows c.args.net.now c.dial.new.self in
    subst (λ (n : NetSeen). LeavesTalk n b.address part c.net_end.result) shows
    (inl (undialled g.N.Door.Door.told g.N.Door.Link.Link.told g.N.Door.Link.Link.faults g.N.Link.Link.told c.in-Err.refusal b.address (g.N.Net.told c.args.net.now) (g.N.Net.told c.dial.new.self) c.in-Err.ensures.lists))

pub returns-in-Err-clause-counts : goal.returns-in-Err-clause-counts
returns-in-Err-clause-counts g c =
    let other = net_shown g.N.Net.told g.N.Door.Door.told g.N.Door.Link.Link.told g.N.Door.Link.Link.faults g.N.Link.Link.told g.N.Net.faults in
    let net = net_seen_by other c.args.net.now c.dial.new.self in
    let shows = as-shown g.N.Net.shown other g.met.N.Net.shows c.args.net.now c.dial.new.self in
    subst (λ (n : NetSeen). NetCounts c.net_end.result n) shows
    (subst (λ (end : Ended). NetCounts end net) (sym c.net_end.ensures) (refused-counts c.in-Err.refusal net c.dial.ensures.cause.later c.in-Err.ensures.cause.refused))

pub returns-in-Ok-answer-clause-talks : goal.returns-in-Ok-answer-clause-talks
returns-in-Ok-answer-clause-talks g c =
    let market = c.args.market.now in
    let b = bidding_as c.args.bidding.now in
    let part = part_in market.auction.terms market.valuations.items b in
    let told = g.N.Link.Link.told in
    let lists = g.N.Net.told in
    let hung = dialled g.N.Door.Door.told g.N.Door.Link.Link.told g.N.Door.Link.Link.faults told b.address c.in-Ok.link c.play-answer.new.link (lists c.args.net.now) (lists c.dial.new.self) (lists c.hang_up.new.self) c.in-Ok.ensures.lists c.hang_up.ensures.lists in
    let other = net_shown g.N.Net.told g.N.Door.Door.told g.N.Door.Link.Link.told g.N.Door.Link.Link.faults g.N.Link.Link.told g.N.Net.faults in
    let net = net_seen_by other c.args.net.now c.hang_up.new.self in
    let shows = as-shown g.N.Net.shown other g.met.N.Net.shows c.args.net.now c.hang_up.new.self in
    subst (λ (n : NetSeen). TalksOn n b.address part (Ok c.in-Ok-answer.seen)) shows
    (record { before = told c.in-Ok.link; after = told c.play-answer.new.link; agrees = c.in-Ok-answer.ensures.talk; lists = hung })

pub returns-in-Ok-answer-clause-counts : goal.returns-in-Ok-answer-clause-counts
returns-in-Ok-answer-clause-counts g c =
    let other = net_shown g.N.Net.told g.N.Door.Door.told g.N.Door.Link.Link.told g.N.Door.Link.Link.faults g.N.Link.Link.told g.N.Net.faults in
    let net = net_seen_by other c.args.net.now c.hang_up.new.self in
    let shows = as-shown g.N.Net.shown other g.met.N.Net.shows c.args.net.now c.hang_up.new.self in
    subst (λ (n : NetSeen). NetCounts how.Done n) shows
    (quiet-counts net how.Done (same-count net (g.N.Net.faults c.dial.new.self) (g.N.Link.Link.faults c.in-Ok.link) (g.N.Link.Link.faults c.play-answer.new.link) c.in-Ok.ensures.cause.steady c.in-Ok.ensures.fresh c.in-Ok-answer.ensures.cause c.hang_up.ensures.faults))

pub returns-in-Err-answer-clause-ends : goal.returns-in-Err-answer-clause-ends
returns-in-Err-answer-clause-ends g c =
    let market = c.args.market.now in
    let b = bidding_as c.args.bidding.now in
    let part = part_in market.auction.terms market.valuations.items b in
    let told = g.N.Link.Link.told in
    let lists = g.N.Net.told in
    let hung = dialled g.N.Door.Door.told g.N.Door.Link.Link.told g.N.Door.Link.Link.faults told b.address c.in-Ok.link c.play-answer.new.link (lists c.args.net.now) (lists c.dial.new.self) (lists c.hang_up.new.self) c.in-Ok.ensures.lists c.hang_up.ensures.lists in
    let other = net_shown g.N.Net.told g.N.Door.Door.told g.N.Door.Link.Link.told g.N.Door.Link.Link.faults g.N.Link.Link.told g.N.Net.faults in
    let net = net_seen_by other c.args.net.now c.hang_up.new.self in
    let shows = as-shown g.N.Net.shown other g.met.N.Net.shows c.args.net.now c.hang_up.new.self in
    let ends = stopped c.in-Err-answer.end net b.address part (told c.in-Ok.link) (told c.play-answer.new.link) (g.N.Net.faults c.dial.new.self) (g.N.Link.Link.faults c.in-Ok.link) (g.N.Link.Link.faults c.play-answer.new.link) hung c.in-Err-answer.ensures.talk c.in-Ok.ensures.cause.steady c.in-Ok.ensures.fresh c.in-Err-answer.ensures.cause c.hang_up.ensures.faults in
    subst (λ (n : NetSeen). IsTalkEnd n b.address part c.ended_by.result) shows (subst (IsTalkEnd net b.address part) (sym c.ended_by.ensures) ends.ends)

pub returns-in-Err-answer-clause-left : goal.returns-in-Err-answer-clause-left
returns-in-Err-answer-clause-left g c =
    let market = c.args.market.now in
    let b = bidding_as c.args.bidding.now in
    let part = part_in market.auction.terms market.valuations.items b in
    let told = g.N.Link.Link.told in
    let lists = g.N.Net.told in
    let hung = dialled g.N.Door.Door.told g.N.Door.Link.Link.told g.N.Door.Link.Link.faults told b.address c.in-Ok.link c.play-answer.new.link (lists c.args.net.now) (lists c.dial.new.self) (lists c.hang_up.new.self) c.in-Ok.ensures.lists c.hang_up.ensures.lists in
    let other = net_shown g.N.Net.told g.N.Door.Door.told g.N.Door.Link.Link.told g.N.Door.Link.Link.faults g.N.Link.Link.told g.N.Net.faults in
    let net = net_seen_by other c.args.net.now c.hang_up.new.self in
    let shows = as-shown g.N.Net.shown other g.met.N.Net.shows c.args.net.now c.hang_up.new.self in
    subst (λ (n : NetSeen). LeavesTalk n b.address part c.ended_by.result) shows (inr (
      c.in-Err-answer.end,
      record { before = told c.in-Ok.link; after = told c.play-answer.new.link; agrees = c.in-Err-answer.ensures.talk; lists = hung },
      c.ended_by.ensures,
    ))

pub returns-in-Err-answer-clause-counts : goal.returns-in-Err-answer-clause-counts
returns-in-Err-answer-clause-counts g c =
    let market = c.args.market.now in
    let b = bidding_as c.args.bidding.now in
    let part = part_in market.auction.terms market.valuations.items b in
    let told = g.N.Link.Link.told in
    let lists = g.N.Net.told in
    let hung = dialled g.N.Door.Door.told g.N.Door.Link.Link.told g.N.Door.Link.Link.faults told b.address c.in-Ok.link c.play-answer.new.link (lists c.args.net.now) (lists c.dial.new.self) (lists c.hang_up.new.self) c.in-Ok.ensures.lists c.hang_up.ensures.lists in
    let other = net_shown g.N.Net.told g.N.Door.Door.told g.N.Door.Link.Link.told g.N.Door.Link.Link.faults g.N.Link.Link.told g.N.Net.faults in
    let net = net_seen_by other c.args.net.now c.hang_up.new.self in
    let shows = as-shown g.N.Net.shown other g.met.N.Net.shows c.args.net.now c.hang_up.new.self in
    let ends = stopped c.in-Err-answer.end net b.address part (told c.in-Ok.link) (told c.play-answer.new.link) (g.N.Net.faults c.dial.new.self) (g.N.Link.Link.faults c.in-Ok.link) (g.N.Link.Link.faults c.play-answer.new.link) hung c.in-Err-answer.ensures.talk c.in-Ok.ensures.cause.steady c.in-Ok.ensures.fresh c.in-Err-answer.ensures.cause c.hang_up.ensures.faults in
    subst (λ (n : NetSeen). NetCounts c.ended_by.result n) shows (subst (λ (end : Ended). NetCounts end net) (sym c.ended_by.ensures) ends.counts)
