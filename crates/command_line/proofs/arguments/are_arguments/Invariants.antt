use Rattle.std.proofs.Common.{◌≡◌, length}
use Rattle.std.specs.List.{list_all}
use Rattle.command_line.specs.Arguments.{is_argument, joined}
use Rattle.command_line.specs.Words.{words_of}
use Rattle.command_line.proofs.arguments.are_arguments.Given as goal

abbrev pub invariant-loop-rest : goal.invariant-loop-rest
invariant-loop-rest l = list_all (is_argument l.name) (joined l.name (words_of l.rest)) ≡ list_all (is_argument l.name) (joined l.name (words_of l.words))

abbrev pub decreases-loop-rest : goal.decreases-loop-rest
decreases-loop-rest l = length l.rest
