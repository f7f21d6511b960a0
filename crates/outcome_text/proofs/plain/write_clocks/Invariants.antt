use Rattle.std.proofs.Common.{◌≡◌, ◌++◌, string_bytes, drop}
use Rattle.outcome_text.specs.Lines.{text_of}
use Rattle.outcome_text.specs.Plain.{clock_lines}
use Rattle.outcome_text.proofs.plain.write_clocks.Given as goal

abbrev pub invariant-loop-clock : goal.invariant-loop-clock
invariant-loop-clock l = string_bytes l.text ++ text_of (clock_lines l.bidders l.clock (drop l.clock l.clocks)) ≡ string_bytes l.initial.text ++ text_of (clock_lines l.bidders 0 l.clocks)
