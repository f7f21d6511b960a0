use Rattle.std.proofs.Common.{inl, inr, refl, ◌∙◌, arith}
use Rattle.two_way.specs.Histories.{TwoWayHistory}
use Rattle.two_way.proofs.Keeping.{come-first, has-room, few-steps, advanced}
use Rattle.two_way.proofs.next_step.Standing.first.Goals as goal

pub loop-made-init : goal.loop-made-init
loop-made-init c =
    let h : TwoWayHistory = record { terms = c.args.terms.now; number = c.args.clock; start = c.args.start.now; reports = c.args.reports.now.reports } in
    record { come = come-first h _ refl refl refl c.new.ensures.steps c.new-2.ensures.steps c.new.ensures.sums c.new-2.ensures.sums; running = refl; steps = refl }

pub advance-requires-clause-room : goal.advance-requires-clause-room
advance-requires-clause-room c =
    let h : TwoWayHistory = record { terms = c.args.terms.now; number = c.args.clock; start = c.args.start.now; reports = c.args.reports.now.reports } in
    λ full. has-room h c.loop-made.standing c.requires.start c.loop-made.invariant.come full

pub advance-requires-clause-few : goal.advance-requires-clause-few
advance-requires-clause-few c =
    let h : TwoWayHistory = record { terms = c.args.terms.now; number = c.args.clock; start = c.args.start.now; reports = c.args.reports.now.reports } in
    few-steps h c.loop-made.standing.steps c.requires.start c.loop-made.invariant.come.path

pub returns-then-standing-made : goal.returns-then-standing-made
returns-then-standing-made c =
    let h : TwoWayHistory = record { terms = c.args.terms.now; number = c.args.clock; start = c.args.start.now; reports = c.args.reports.now.reports } in
    let before = c.loop-made.invariant in
    elim (advanced h c.loop-made.standing c.advance.new.self before.come before.running c.advance.ensures.open c.advance.ensures.full) [
      | inl on ↦ absurd (let one = on.steps in let same = before.steps in let stays = c.if-standing-made.true in omega (arith, one, same, stays))
      | inr here ↦ here.stands
    ]

pub loop-made-preserved : goal.loop-made-preserved
loop-made-preserved c =
    let h : TwoWayHistory = record { terms = c.args.terms.now; number = c.args.clock; start = c.args.start.now; reports = c.args.reports.now.reports } in
    let before = c.loop-made.invariant in
    elim (advanced h c.loop-made.standing c.advance.new.self before.come before.running c.advance.ensures.open c.advance.ensures.full) [
      | inl on ↦ record { come = on.come; running = on.phase ∙ before.running; steps = (let one = on.steps in let same = before.steps in omega (arith, one, same)) }
      | inr here ↦ absurd (c.if-standing-made.false (here.steps ∙ before.steps))
    ]

pub returns : goal.returns
returns c =
    let h : TwoWayHistory = record { terms = c.args.terms.now; number = c.args.clock; start = c.args.start.now; reports = c.args.reports.now.reports } in
    let before = c.loop-made.invariant in
    let few = few-steps h c.loop-made.standing.steps c.requires.start before.come.path in
    let same = before.steps in
    let end = c.loop-made-test.false in
    absurd (omega (arith, few, same, end))
