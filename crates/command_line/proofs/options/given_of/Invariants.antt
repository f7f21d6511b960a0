use Rattle.std.proofs.Common.{take}
use Rattle.command_line.specs.Arguments.{own}
use Rattle.command_line.specs.Givens.{IsGiven}
use Rattle.command_line.specs.Positionals.{texts}
use Rattle.command_line.proofs.options.given_of.Given as goal

abbrev pub invariant-loop-option : goal.invariant-loop-option
invariant-loop-option l = IsGiven l.given l.front (own l.front (texts (take l.option-index l.options)))
