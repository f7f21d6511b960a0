use Rattle.std.proofs.Common.{◌≡◌, ◌++◌, drop, map}
use Rattle.outcome_text.specs.Lines.{text_of}
use Rattle.house_run.specs.ServeTexts.{door_lines}
use Rattle.house_run.proofs.serve_texts.write_doors.Given as goal

abbrev pub invariant-loop-door : goal.invariant-loop-door
invariant-loop-door l = l.text.items ++ text_of (door_lines l.door (map (λ ends. ends.items) (drop l.door l.doors))) ≡ l.initial.text.items ++ text_of (door_lines 0 (map (λ ends. ends.items) l.doors))
