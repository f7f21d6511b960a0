use Rattle.std.proofs.Common.{take}
use Rattle.clock.specs.Reports.{histories}
use Rattle.house_run.specs.ExplainCommand.{IsExplainedText}
use Rattle.house_run.proofs.commands.explain.explained_text.Given as goal

abbrev pub invariant-loop-clock : goal.invariant-loop-clock
invariant-loop-clock l = IsExplainedText (histories (take l.clock-index l.clocks)) l.text.items
