use Rattle.std.proofs.Common.{◌≡◌, ◌++◌, string_bytes, drop}
use Rattle.clock.specs.Reports.{members}
use Rattle.clock.proofs.Members.{members_from}
use Rattle.outcome_text.specs.Lines.{text_of}
use Rattle.outcome_text.specs.Plain.{choice_lines}
use Rattle.outcome_text.proofs.plain.write_choices.Given as goal

abbrev pub invariant-loop-step : goal.invariant-loop-step
invariant-loop-step l =
    string_bytes l.text ++ text_of (choice_lines l.clock (members_from l.step l.bidders l.clock) (drop l.place l.choices)) ≡ string_bytes l.initial.text ++ text_of (choice_lines l.clock (members l.bidders l.clock) l.choices)
