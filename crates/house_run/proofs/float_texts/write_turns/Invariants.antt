use Rattle.std.proofs.Common.{◌≡◌, ◌++◌, string_bytes, drop}
use Rattle.outcome_text.specs.Lines.{text_of}
use Rattle.house_run.specs.FloatCommand.{turn_lines}
use Rattle.house_run.proofs.float_texts.write_turns.Given as goal

abbrev pub invariant-loop-number : goal.invariant-loop-number
invariant-loop-number l = string_bytes l.text ++ text_of (turn_lines l.bidders l.number (drop l.number l.clocks) (drop l.number l.choices)) ≡ string_bytes l.initial.text ++ text_of (turn_lines l.bidders 0 l.clocks l.choices)
