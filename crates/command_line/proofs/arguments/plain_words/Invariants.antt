use Rattle.std.proofs.Common.{◌≡◌, take}
use Rattle.command_line.specs.Arguments.{plain_in}
use Rattle.command_line.specs.Positionals.{texts}
use Rattle.command_line.specs.Words.{words_of}
use Rattle.command_line.proofs.arguments.plain_words.Given as goal

abbrev pub invariant-loop-word : goal.invariant-loop-word
invariant-loop-word l = texts l.plain.items ≡ plain_in (words_of (take l.word-index l.words))
