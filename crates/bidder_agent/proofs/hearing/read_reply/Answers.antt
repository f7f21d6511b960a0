use Rattle.std.proofs.Common.{◌∙◌, ◌<◌, ◌≤◌, sym, subst, rules, arith, take, drop, map, length, List, ℕ, ◌++◌}
use Rattle.std.proofs.lemmas.List.{length-take-le, take-append-le}
use Rattle.report_wire.specs.Frames.{Reads}
use Rattle.report_wire.specs.Messages.{to_bidder, bidder_sent}
use Rattle.report_wire.specs.Reading.{needs_of}
use Rattle.bidder_agent.proofs.Replies.{taken_more, fault_heard, no_memory, reply_heard, bad_heard, still_taken, kept, whole_still, smaller, nothing}
use Rattle.bidder_agent.proofs.hearing.read_reply.Goals as goal

pub returns-in-Err-clause-heard : goal.returns-in-Err-clause-heard
returns-in-Err-clause-heard g c =
    fault_heard (g.L.Link.told c.args.link.now) (g.L.Link.told c.pieces.link) (g.L.Link.told c.pull.new.self) c.pieces.reader.rest c.pull.new.into c.in-Err.field-0 c.needs.ensures.partial c.pieces.invariant.taken c.in-Err.ensures.bytes

pub returns-in-Err-feed-clause-heard : goal.returns-in-Err-feed-clause-heard
returns-in-Err-feed-clause-heard g c =
    no_memory _ _ _ (taken_more (g.L.Link.told c.args.link.now) (g.L.Link.told c.pieces.link) (g.L.Link.told c.pull.new.self) c.pieces.reader.rest c.pull.new.into c.in-Ok.count c.pieces.invariant.taken c.in-Ok.ensures.bytes)

pub returns-in-Some-clause-heard : goal.returns-in-Some-clause-heard
returns-in-Some-clause-heard g c =
    let piece = take c.in-Ok.count c.pull.new.into in
    let size = length-take-le c.in-Ok.count c.pull.new.into c.in-Ok.ensures.within in
    let room : length c.pull.new.into ≤ c.needs.result = search rules in
    let value = c.needs.ensures.value in
    let within = c.in-Ok.ensures.within in
    let le : length piece ≤ needs_of c.pieces.reader.rest = omega (arith, size, room, value, within) in
    reply_heard (g.L.Link.told c.args.link.now) (g.L.Link.told c.pull.new.self) c.pieces.reader.rest piece c.in-Ok-feed.feed.frames.items c.feed.new.self
    (taken_more (g.L.Link.told c.args.link.now) (g.L.Link.told c.pieces.link) (g.L.Link.told c.pull.new.self) c.pieces.reader.rest c.pull.new.into c.in-Ok.count c.pieces.invariant.taken c.in-Ok.ensures.bytes)
    (subst (λ (l : List ℕ). Reads to_bidder (c.pieces.reader.rest ++ l) (map bidder_sent c.in-Ok-feed.feed.frames.items) c.feed.new.self.rest c.feed.new.self.fault) (take-append-le c.in-Ok.count c.pull.new.into (drop c.min-room.result c.pieces.chunk) c.in-Ok.ensures.within) (c.in-Ok-feed.ensures.reads c.pieces.invariant.whole)) c.pop.new.self.items c.in-Some.reply c.needs.ensures.partial le c.in-Some.ensures.items

pub returns-in-Some-fault-clause-heard : goal.returns-in-Some-fault-clause-heard
returns-in-Some-fault-clause-heard g c =
    let piece = take c.in-Ok.count c.pull.new.into in
    bad_heard (g.L.Link.told c.args.link.now) (g.L.Link.told c.pull.new.self) c.pieces.reader.rest piece c.in-Ok-feed.feed.frames.items c.feed.new.self
    (taken_more (g.L.Link.told c.args.link.now) (g.L.Link.told c.pieces.link) (g.L.Link.told c.pull.new.self) c.pieces.reader.rest c.pull.new.into c.in-Ok.count c.pieces.invariant.taken c.in-Ok.ensures.bytes)
    (subst (λ (l : List ℕ). Reads to_bidder (c.pieces.reader.rest ++ l) (map bidder_sent c.in-Ok-feed.feed.frames.items) c.feed.new.self.rest c.feed.new.self.fault) (take-append-le c.in-Ok.count c.pull.new.into (drop c.min-room.result c.pieces.chunk) c.in-Ok.ensures.within) (c.in-Ok-feed.ensures.reads c.pieces.invariant.whole)) (nothing _ _ _ c.in-None.ensures.items c.in-None.ensures.rest c.in-None.ensures.cases.0) c.in-Some-fault.field-0 (sym c.in-Ok-feed.ensures.fault ∙ c.in-Some-fault.is)

pub pieces-smaller : goal.pieces-smaller
pieces-smaller g c =
    let piece = take c.in-Ok.count c.pull.new.into in
    let size = length-take-le c.in-Ok.count c.pull.new.into c.in-Ok.ensures.within in
    let some : 0 < length piece = (let t = c.in-Ok.count-test in omega (arith, size)) in
    smaller c.pieces.reader.rest piece c.feed.new.self.rest c.needs.ensures.partial some
    (kept (g.L.Link.told c.args.link.now) (g.L.Link.told c.pull.new.self) c.pieces.reader.rest piece c.in-Ok-feed.feed.frames.items c.feed.new.self
    (taken_more (g.L.Link.told c.args.link.now) (g.L.Link.told c.pieces.link) (g.L.Link.told c.pull.new.self) c.pieces.reader.rest c.pull.new.into c.in-Ok.count c.pieces.invariant.taken c.in-Ok.ensures.bytes)
    (subst (λ (l : List ℕ). Reads to_bidder (c.pieces.reader.rest ++ l) (map bidder_sent c.in-Ok-feed.feed.frames.items) c.feed.new.self.rest c.feed.new.self.fault) (take-append-le c.in-Ok.count c.pull.new.into (drop c.min-room.result c.pieces.chunk) c.in-Ok.ensures.within) (c.in-Ok-feed.ensures.reads c.pieces.invariant.whole)) (nothing _ _ _ c.in-None.ensures.items c.in-None.ensures.rest c.in-None.ensures.cases.0))

pub pieces-preserved : goal.pieces-preserved
pieces-preserved g c =
    let piece = take c.in-Ok.count c.pull.new.into in
    let taken = taken_more (g.L.Link.told c.args.link.now) (g.L.Link.told c.pieces.link) (g.L.Link.told c.pull.new.self) c.pieces.reader.rest c.pull.new.into c.in-Ok.count c.pieces.invariant.taken c.in-Ok.ensures.bytes in
    let none = nothing _ _ _ c.in-None.ensures.items c.in-None.ensures.rest c.in-None.ensures.cases.0 in
    record {
      whole = whole_still (g.L.Link.told c.args.link.now) (g.L.Link.told c.pull.new.self) c.pieces.reader.rest piece c.in-Ok-feed.feed.frames.items c.feed.new.self taken (subst (λ (l : List ℕ). Reads to_bidder (c.pieces.reader.rest ++ l) (map bidder_sent c.in-Ok-feed.feed.frames.items) c.feed.new.self.rest c.feed.new.self.fault) (take-append-le c.in-Ok.count c.pull.new.into (drop c.min-room.result c.pieces.chunk) c.in-Ok.ensures.within) (c.in-Ok-feed.ensures.reads c.pieces.invariant.whole)) none (sym c.in-Ok-feed.ensures.fault ∙ c.in-None-fault.is);
      taken = still_taken (g.L.Link.told c.args.link.now) (g.L.Link.told c.pull.new.self) c.pieces.reader.rest piece c.in-Ok-feed.feed.frames.items c.feed.new.self taken (subst (λ (l : List ℕ). Reads to_bidder (c.pieces.reader.rest ++ l) (map bidder_sent c.in-Ok-feed.feed.frames.items) c.feed.new.self.rest c.feed.new.self.fault) (take-append-le c.in-Ok.count c.pull.new.into (drop c.min-room.result c.pieces.chunk) c.in-Ok.ensures.within) (c.in-Ok-feed.ensures.reads c.pieces.invariant.whole)) none;
      cause = c.in-Ok.ensures.cause.steady ∙ c.pieces.invariant.cause;
    }
