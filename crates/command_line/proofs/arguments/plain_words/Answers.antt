use Rattle.std.proofs.Common.{sym, subst, take}
use Rattle.std.specs.List.{AllByRecursion}
use Rattle.command_line.specs.Words.{IsPlainWord, words_of}
use Rattle.command_line.proofs.Parting.{plain-plain}
use Rattle.command_line.proofs.PlainWords.{all-words}
use Rattle.command_line.proofs.arguments.plain_words.Goals as goal

pub returns-clause-plain : goal.returns-clause-plain
returns-clause-plain c = all-words c.loop-word.plain.items (subst (AllByRecursion IsPlainWord) (sym c.loop-word.invariant) (plain-plain (words_of (take c.loop-word.word-index c.args.words.now))))
