use Rattle.std.proofs.Common.{◌≡◌, ◌++◌, drop, suc}
use Rattle.outcome_text.specs.Lines.{text_of}
use Rattle.house_run.specs.ServeTexts.{session_lines}
use Rattle.house_run.proofs.serve_texts.write_sessions.Given as goal

abbrev pub invariant-loop-before : goal.invariant-loop-before
invariant-loop-before l = l.text.items ++ text_of (session_lines l.door (suc l.before) (drop l.before l.ends)) ≡ l.initial.text.items ++ text_of (session_lines l.door 1 l.ends)
