-- Each bidder has chosen, is left out, or has no choice left.
use Rattle.std.proofs.Common.{◌∙◌, ◌+◌, ℕ, List, ap, drop, arith}
use Rattle.clock.specs.Reports.{members}
use Rattle.clock.proofs.Members.{members_from}
use Rattle.serde_json.specs.Data.{Items, array}
use Rattle.serde_json.specs.View.{items_view}
use Rattle.serde_json.specs.declared.value.Value.{Value}
use Rattle.serde_json.proofs.Views.{view-Array}
use Rattle.outcome_text.specs.Json.{choice_objects}
use Rattle.outcome_text.proofs.Items.{then, choices-keep, choices-skip, choices-none, choices-end}
use Rattle.outcome_text.proofs.json.choice_values.Goals as goal
use Rattle.outcome_text.proofs.json.choice_values.Goals.{then-bidder-clock+then-place-len+in_ok-value+in_ok-push, else-bidder-clock, else-bidder-clock-via-then-bidder-clock+else-place-len, else-bidder-clock-via-else-bidder-clock}

pub loop-step-preserved : goal.loop-step-preserved
loop-step-preserved c =
    let bidders = c.args.bidders in
    let clock = c.args.clock in
    let choices = c.args.choices.now in
    let step = c.loop-step.step in
    let place = c.loop-step.place in
    let values = c.loop-step.values.items in
    let whole = choice_objects (members bidders clock) choices in
    let rest : List Value → ℕ → Items = λ vs k. then (items_view vs) (choice_objects (members_from (step + 1) bidders clock) (drop k choices)) in
    elim c.if-bidder-clock.branch [
      | then-bidder-clock+then-place-len+in_ok-value+in_ok-push w ↦
          (λ i. rest (w.values-is i).items (w.place-is i))
          ∙ choices-keep bidders clock step place choices w.get.result values w.push.new.self.items w.in_ok-value.value whole c.loop-step-test.true w.if-bidder-clock.true (omega arith) w.get.ensures w.in_ok-value.ensures w.in_ok-push.ensures.items c.loop-step.invariant
      | else-bidder-clock w ↦
          (λ i. rest (w.values-is i).items (w.place-is i))
          ∙ elim w.else-bidder-clock.branch [
            | else-bidder-clock-via-then-bidder-clock+else-place-len v ↦ choices-none bidders clock step place choices (items_view values) whole (omega arith) c.loop-step.invariant
            | else-bidder-clock-via-else-bidder-clock v ↦ choices-skip bidders clock step (drop place choices) (items_view values) whole c.loop-step-test.true v.if-bidder-clock.false c.loop-step.invariant
          ]
    ]

pub returns : goal.returns
returns c =
    let whole = choice_objects (members c.args.bidders c.args.clock) c.args.choices.now in
    view-Array c.loop-step.values
    ∙ ap array (choices-end c.args.bidders c.args.clock c.loop-step.step (drop c.loop-step.place c.args.choices.now) (items_view c.loop-step.values.items) whole c.loop-step-test.false c.loop-step.invariant)
