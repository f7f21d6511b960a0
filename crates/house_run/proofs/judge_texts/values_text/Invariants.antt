use Rattle.std.proofs.Common.{◌≡◌, ◌++◌, drop}
use Rattle.lot_base.specs.Box.{box}
use Rattle.outcome_text.specs.Lines.{text_of}
use Rattle.house_run.specs.JudgeCommand.{value_lines}
use Rattle.house_run.proofs.judge_texts.values_text.Given as goal

abbrev pub invariant-loop-index : goal.invariant-loop-index
invariant-loop-index l = l.text.items ++ text_of (value_lines (drop l.index (box l.goods)) (drop l.index l.values)) ≡ l.initial.text.items ++ text_of (value_lines (box l.goods) l.values)
