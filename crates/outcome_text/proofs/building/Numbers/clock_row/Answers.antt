-- The row is what the front of the clock and its choices are.
use Rattle.std.proofs.Common.{◌≡◌, ◌∙◌, Some, None, sym, ap}
use Rattle.settlement.specs.declared.outcome.ClockRow.{ClockRow}
use Rattle.outcome_text.proofs.ClockRows.{row-found}
use Rattle.outcome_text.proofs.building.Numbers.clock_row.Goals as goal

pub returns-in-Some-2-clause-back : goal.returns-in-Some-2-clause-back
returns-in-Some-2-clause-back c = λ row behind is e.
    let found =
    row-found c.args.goods c.args.bidders c.args.clock c.member_count.result c.args.self.now.rest.now c.clock_head.new.self.rest.now c.choices.new.self.rest.now (Some c.in-Some.head) _
    c.member_count.ensures c.in-Some.ensures.back c.in_ok-choices.ensures.back row behind is e in
    let head : c.in-Some.head ≡ (row.steps, row.prices) = let h = found.head_is in cc in
    let choices : c.in-Some-2.choices ≡ row.choices = let h = sym c.in-Some-2.is ∙ found.choices_are in cc in
    let made : ClockRow = record { steps = c.in-Some.head.0; prices = c.in-Some.head.1; choices = c.in-Some-2.choices } in
    let same : made ≡ row = λ i. record { steps = (head i).0; prices = (head i).1; choices = choices i } in
    (ap (λ r. Some r) same, found.rest_is)

pub returns-in-None-2-clause-back : goal.returns-in-None-2-clause-back
returns-in-None-2-clause-back c = λ row behind is e.
    let found =
    row-found c.args.goods c.args.bidders c.args.clock c.member_count.result c.args.self.now.rest.now c.clock_head.new.self.rest.now c.choices.new.self.rest.now (Some c.in-Some.head) _
    c.member_count.ensures c.in-Some.ensures.back c.in_ok-choices.ensures.back row behind is e in
    let none : None ≡ Some row.choices = sym c.in-None-2.is ∙ found.choices_are in
    absurd (cc)
