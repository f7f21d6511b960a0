use Rattle.std.proofs.Common.{◌≡◌, ◌++◌, take}
use Rattle.outcome_text.specs.Lines.{text_of}
use Rattle.house_run.specs.JudgeCommand.{link_lines}
use Rattle.house_run.proofs.judge_texts.links_text.Given as goal

abbrev pub invariant-loop-link : goal.invariant-loop-link
invariant-loop-link l = l.text.items ≡ l.initial.text.items ++ text_of (link_lines l.places (take l.link-index l.links))
