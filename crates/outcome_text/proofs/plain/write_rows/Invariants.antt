use Rattle.std.proofs.Common.{◌≡◌, ◌++◌, string_bytes, ◌+◌, drop}
use Rattle.outcome_text.specs.Lines.{text_of}
use Rattle.outcome_text.specs.Plain.{bidder_lines}
use Rattle.outcome_text.proofs.plain.write_rows.Given as goal

abbrev pub invariant-loop-place : goal.invariant-loop-place
invariant-loop-place l = string_bytes l.text ++ text_of (bidder_lines (l.place + 1) (drop l.place l.rows)) ≡ string_bytes l.initial.text ++ text_of (bidder_lines 1 l.rows)
