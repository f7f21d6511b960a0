-- The words are those of the four ids, and the terms are read from the first three.
use Rattle.std.specs.Prelude.{codes}
use Rattle.clap.specs.Words.{found_of}
use Rattle.command_line.specs.Positionals.{texts}
use Rattle.command_line.proofs.PlainWords.{plain-words}
use Rattle.command_line.proofs.NamedWords.{four-words, spells-fold, there}
use Rattle.command_line.proofs.words.read_fold.Goals as goal

pub word_of-supply-requires : goal.word_of-supply-requires
word_of-supply-requires c =
    let named = rw c.in-Some.is at c.in_ok-matches.ensures.some in
    let four = four-words (found_of c.in-Some.matches) (codes "SUPPLY") (codes "BIDDERS") (codes "CEILING") (codes "LOG") (texts c.args.words.now) named in
    there _ four.first four.first_is

pub word_of-bidders-requires : goal.word_of-bidders-requires
word_of-bidders-requires c =
    let named = rw c.in-Some.is at c.in_ok-matches.ensures.some in
    let four = four-words (found_of c.in-Some.matches) (codes "SUPPLY") (codes "BIDDERS") (codes "CEILING") (codes "LOG") (texts c.args.words.now) named in
    there _ four.second four.second_is

pub word_of-ceiling-requires : goal.word_of-ceiling-requires
word_of-ceiling-requires c =
    let named = rw c.in-Some.is at c.in_ok-matches.ensures.some in
    let four = four-words (found_of c.in-Some.matches) (codes "SUPPLY") (codes "BIDDERS") (codes "CEILING") (codes "LOG") (texts c.args.words.now) named in
    there _ four.third four.third_is

pub word_of-requires : goal.word_of-requires
word_of-requires c =
    let named = rw c.in-Some.is at c.in_ok-matches.ensures.some in
    let four = four-words (found_of c.in-Some.matches) (codes "SUPPLY") (codes "BIDDERS") (codes "CEILING") (codes "LOG") (texts c.args.words.now) named in
    there _ four.fourth four.fourth_is

pub returns-in-Some-2-clause-some : goal.returns-in-Some-2-clause-some
returns-in-Some-2-clause-some c =
    let named = rw c.in-Some.is at c.in_ok-matches.ensures.some in
    spells-fold (found_of c.in-Some.matches) (codes "SUPPLY") (codes "BIDDERS") (codes "CEILING") (codes "LOG") c.word_of-supply.result.now c.word_of-bidders.result.now c.word_of-ceiling.result.now c.word_of.result.now
    (texts c.args.words.now) c.in-Some-2.terms named c.word_of-supply.ensures c.word_of-bidders.ensures c.word_of-ceiling.ensures c.word_of.ensures (plain-words c.args.words.now c.requires) (rw c.in-Some-2.is at c.in_ok-terms.ensures.some)
