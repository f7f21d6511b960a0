use Rattle.std.proofs.Common.{[], ◌∷◌}
use Rattle.std.specs.Prelude.{codes}
use Rattle.clap.specs.Words.{found_of}
use Rattle.command_line.specs.Positionals.{texts}
use Rattle.command_line.proofs.PlainWords.{plain-words}
use Rattle.command_line.proofs.NamedWords.{named-some, spells-float}
use Rattle.command_line.proofs.words.read_float.Goals as goal

pub word_of-requires-3 : goal.word_of-requires-3
word_of-requires-3 c =
    let named = rw c.in-Some.is at c.in_ok-matches.ensures.some in
    (named-some (found_of c.in-Some.matches) (codes "AUCTION" ∷ codes "VALUES" ∷ codes "START" ∷ []) (texts c.args.words.now) named).1.0

pub returns-clause-some : goal.returns-clause-some
returns-clause-some c =
    let named = rw c.in-Some.is at c.in_ok-matches.ensures.some in
    let list = rw c.in-Some-2.is at c.in_ok-start.ensures.some in
    spells-float (found_of c.in-Some.matches) c.word_of-2.result.now c.word_of-3.result.now c.word_of.result.now c.in-Some-2.start (texts c.args.words.now) named
    c.word_of-2.ensures c.word_of-3.ensures c.word_of.ensures list.0 list.1 (plain-words c.args.words.now c.requires)
