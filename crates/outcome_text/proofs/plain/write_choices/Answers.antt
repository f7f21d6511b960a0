-- Each bidder has chosen, is left out, or has no choice left.
use Rattle.std.proofs.Common.{◌++◌, ◌+◌, ◌∙◌, ℕ, List, string_bytes, drop, arith}
use Rattle.clock.proofs.Members.{members_from}
use Rattle.outcome_text.specs.Lines.{text_of}
use Rattle.outcome_text.specs.Plain.{choice_lines}
use Rattle.outcome_text.proofs.PlainLines.{choices-keep, choices-skip, choices-none}
use Rattle.outcome_text.proofs.plain.write_choices.Goals as goal
use Rattle.outcome_text.proofs.plain.write_choices.Goals.{then-bidder-clock+then-place-len+in_ok-write_choice, else-bidder-clock, else-bidder-clock-via-then-bidder-clock+else-place-len, else-bidder-clock-via-else-bidder-clock}

pub loop-step-preserved : goal.loop-step-preserved
loop-step-preserved c =
    let bidders = c.args.bidders in
    let clock = c.args.clock in
    let choices = c.args.choices.now in
    let step = c.loop-step.step in
    let place = c.loop-step.place in
    let text = string_bytes c.loop-step.text in
    let rest : List ℕ → ℕ → List ℕ = λ before k. before ++ text_of (choice_lines clock (members_from (step + 1) bidders clock) (drop k choices)) in
    elim c.if-bidder-clock.branch [
      | then-bidder-clock+then-place-len+in_ok-write_choice w ↦
          (λ i. rest (string_bytes (w.text-is i)) (w.place-is i))
          ∙ choices-keep bidders clock step place choices w.get.result text _ _ c.loop-step-test.true w.if-bidder-clock.true (omega arith) w.get.ensures w.in_ok-write_choice.ensures c.loop-step.invariant
      | else-bidder-clock w ↦
          (λ i. rest (string_bytes (w.text-is i)) (w.place-is i))
          ∙ elim w.else-bidder-clock.branch [
            | else-bidder-clock-via-then-bidder-clock+else-place-len v ↦ choices-none bidders clock step place choices text _ (omega arith) c.loop-step.invariant
            | else-bidder-clock-via-else-bidder-clock v ↦ choices-skip bidders clock step (drop place choices) text _ c.loop-step-test.true v.if-bidder-clock.false c.loop-step.invariant
          ]
    ]
