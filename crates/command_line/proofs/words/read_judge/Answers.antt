use Rattle.std.proofs.Common.{[], ◌∷◌}
use Rattle.std.specs.Prelude.{codes}
use Rattle.clap.specs.Words.{found_of}
use Rattle.command_line.specs.Positionals.{texts}
use Rattle.command_line.proofs.PlainWords.{plain-words}
use Rattle.command_line.proofs.NamedWords.{named-some, spells-judge}
use Rattle.command_line.proofs.words.read_judge.Goals as goal

pub word_of-requires-in-Some-read_number-2 : goal.word_of-requires-in-Some-read_number-2
word_of-requires-in-Some-read_number-2 c =
    let named = rw c.in-Some.is at c.in_ok-matches.ensures.some in
    (named-some (found_of c.in-Some.matches) (codes "AUCTION" ∷ codes "JOURNALS" ∷ codes "BIDDER" ∷ []) (texts c.args.words.now) named).1.0

pub returns-in-Some-read_number-clause-some : goal.returns-in-Some-read_number-clause-some
returns-in-Some-read_number-clause-some c =
    let named = rw c.in-Some.is at c.in_ok-matches.ensures.some in
    let digits = c.in-Some-read_number.ensures.some in
    spells-judge (found_of c.in-Some.matches) c.word_of-in-Some-read_number.result.now c.word_of-in-Some-read_number-2.result.now c.word_of.result.now c.in-Some-read_number.bidder (texts c.args.words.now) named
    c.word_of-in-Some-read_number.ensures c.word_of-in-Some-read_number-2.ensures c.word_of.ensures digits.0 (record { at_least = digits.1; at_most = digits.2 }) (plain-words c.args.words.now c.requires)
