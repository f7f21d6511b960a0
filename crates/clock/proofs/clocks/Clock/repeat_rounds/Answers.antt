use Rattle.std.proofs.Common.{◌≡◌, ◌∙◌, ◌+◌, ◌-◌, ◌*◌, suc, ap, arith, length}
use Rattle.clock.specs.Reports.{ClockOf, members_of}
use Rattle.clock.specs.Repeats.{with_round, repeated}
use Rattle.clock.proofs.AgainRounds.{members-repeated, room-on, room-next}
use Rattle.clock.proofs.clocks.Clock.repeat_rounds.Goals as goal

pub repeat_round-requires-clause-room : goal.repeat_round-requires-clause-room
repeat_round-requires-clause-room c =
    let old = c.args.self.now in
    let i = c.loop-added.invariant in
    let m = ap (λ (z : ClockOf). length (members_of z.history)) i.all ∙ ap length (members-repeated old.history c.loop-added.added) in
    let s = ap (λ (z : ClockOf). z.spare_reports) i.all in
    let r = room-on (length (members_of old.history)) c.args.most c.loop-added.added old.spare_reports c.loop-added-test.true c.requires.room in
    omega (arith, m, s, r)

pub loop-added-preserved : goal.loop-added-preserved
loop-added-preserved c =
    let old = c.args.self.now in
    let added = c.loop-added.added in
    let i = c.loop-added.invariant in
    let m = ap length (members-repeated old.history added) in
    let n = room-next (length (members_of old.history)) added old.spare_reports in
    let spare : old.spare_reports - added * length (members_of old.history) - length (members_of (repeated added old.history)) ≡ old.spare_reports - (added + 1) * length (members_of old.history) = omega (arith, m, n) in
    let e : suc added ≡ added + 1 = omega arith in
    let steps = ap (λ n. n + 1) i.steps in
    record {
      all = c.repeat_round.ensures.all ∙ ap (λ (z : ClockOf). record z { history = with_round z.history; spare_reports = z.spare_reports - length (members_of z.history) }) i.all
          ∙ (λ t. record old { history = repeated (e t) old.history; spare_reports = spare t });
      idle = c.repeat_round.ensures.idle;
      steps = (let w = c.repeat_round.ensures.steps in omega (arith, w, i.steps));
      same = c.repeat_round.ensures.same;
    }
