use Rattle.std.specs.Prelude.{codes}
use Rattle.clap.specs.Words.{found_of}
use Rattle.command_line.specs.Positionals.{texts}
use Rattle.command_line.proofs.PlainWords.{plain-words}
use Rattle.command_line.proofs.NamedWords.{spells-standing, there, two-words}
use Rattle.command_line.proofs.words.read_standing.Goals as goal

pub word_of-requires-2 : goal.word_of-requires-2
word_of-requires-2 c =
    let named = rw c.in-Some.is at c.in_ok-matches.ensures.some in
    let two = two-words (found_of c.in-Some.matches) (codes "AUCTION") (codes "JOURNALS") (texts c.args.words.now) named in
    there _ two.second two.second_is

pub returns-clause-some : goal.returns-clause-some
returns-clause-some c =
    let named = rw c.in-Some.is at c.in_ok-matches.ensures.some in
    spells-standing (found_of c.in-Some.matches) (codes "AUCTION") (codes "JOURNALS") c.word_of.result.now c.word_of-2.result.now (texts c.args.words.now) named c.word_of.ensures c.word_of-2.ensures (plain-words c.args.words.now c.requires)
