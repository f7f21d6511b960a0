use Rattle.std.proofs.Common.{◌≡◌, ◌++◌, length}
use Rattle.command_line.specs.Arguments.{joined}
use Rattle.command_line.specs.Words.{words_of}
use Rattle.command_line.proofs.arguments.joined_words.Given as goal

abbrev pub invariant-loop-rest : goal.invariant-loop-rest
invariant-loop-rest l = words_of l.all.items ++ joined l.name (words_of l.rest) ≡ joined l.name (words_of l.words)

abbrev pub decreases-loop-rest : goal.decreases-loop-rest
decreases-loop-rest l = length l.rest
