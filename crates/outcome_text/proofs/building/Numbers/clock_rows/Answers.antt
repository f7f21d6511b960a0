use Rattle.std.proofs.Common.{◌≡◌, ◌∙◌, ◌+◌, ℕ, Option, Some, IfSome, ap, subst, arith}
use Rattle.settlement.specs.declared.outcome.ClockRow.{ClockRow}
use Rattle.outcome_text.specs.Parts.{IsClockOf}
use Rattle.outcome_text.proofs.ClockRows.{one-more-clock, no-clock, all-clocks, AreClocksTaken, TakesClock}
use Rattle.outcome_text.proofs.building.Numbers.clock_rows.Goals as goal

pub returns-in-None-clause-back : goal.returns-in-None-clause-back
returns-in-None-clause-back c = λ rows behind are e.
    let Takes : Option ClockRow → Type 0 = λ row. TakesClock c.args.goods c.args.bidders c.loop-clock.clock c.loop-clock.self.rest.now c.clock_row.new.self.rest.now row in
    absurd (no-clock c.args.goods c.args.bidders c.loop-clock.clock c.args.self.now.rest.now c.loop-clock.self.rest.now c.clock_row.new.self.rest.now c.loop-clock.rows.items rows behind c.loop-clock.invariant c.loop-clock-test.true (subst Takes c.in-None.is c.in_ok-row.ensures.back) are e)

pub loop-clock-preserved : goal.loop-clock-preserved
loop-clock-preserved c =
    let Takes : Option ClockRow → Type 0 = λ row. TakesClock c.args.goods c.args.bidders c.loop-clock.clock c.loop-clock.self.rest.now c.clock_row.new.self.rest.now row in
    let Fits : Option ClockRow → Type 0 = λ row. IfSome row (IsClockOf c.args.goods c.args.bidders c.loop-clock.clock) in
    one-more-clock c.args.goods c.args.bidders c.loop-clock.clock c.args.self.now.rest.now c.loop-clock.self.rest.now c.clock_row.new.self.rest.now c.loop-clock.rows.items c.push.new.self.items c.in-Some.row
    c.loop-clock.invariant c.loop-clock-test.true (subst Fits c.in-Some.is c.in_ok-row.ensures.fit) (subst Takes c.in-Some.is c.in_ok-row.ensures.back) c.in_ok-push-in-Some.ensures.items

pub returns-clause-back : goal.returns-clause-back
returns-clause-back c = λ rows behind are e.
    let last : c.loop-clock.clock ≡ c.args.bidders + 1 = omega arith in
    let P : ℕ → Type 0 = λ n. AreClocksTaken c.args.goods c.args.bidders n c.args.self.now.rest.now c.loop-clock.self.rest.now c.loop-clock.rows.items in
    let done = all-clocks c.args.goods c.args.bidders c.args.self.now.rest.now c.loop-clock.self.rest.now c.loop-clock.rows.items rows behind (subst P last c.loop-clock.invariant) are e in
    (ap (λ rs. Some rs) (c.from_vec.ensures ∙ done.0), done.1)
