use Rattle.std.proofs.Common.{[], ◌∷◌}
use Rattle.std.specs.Prelude.{codes}
use Rattle.clap.specs.Words.{found_of}
use Rattle.command_line.specs.Positionals.{texts}
use Rattle.command_line.proofs.NamedWords.{named-some, no-serve, spells-serve}
use Rattle.command_line.proofs.OptionWords.{text-count}
use Rattle.command_line.proofs.words.read_serve.Goals as goal

pub returns-in_default-clause-none : goal.returns-in_default-clause-none
returns-in_default-clause-none c = λ line parted. no-serve line (texts c.args.words.now) (texts c.args.options.now) parted (λ auction journals address n m same ds ss. c.in_default.ensures.none n ds)

pub returns-in_default-number_of-clause-none : goal.returns-in_default-number_of-clause-none
returns-in_default-number_of-clause-none c = λ line parted. no-serve line (texts c.args.words.now) (texts c.args.options.now) parted (λ auction journals address n m same ds ss. c.in_default-number_of.ensures.none m ss)

pub returns-in_default-2-clause-none : goal.returns-in_default-2-clause-none
returns-in_default-2-clause-none c = λ line parted. no-serve line (texts c.args.words.now) (texts c.args.options.now) parted (λ auction journals address n m same ds ss. let other = rw c.in_default-2.is at c.in_ok-matches.ensures.none in other (text-count c.args.words.now _ same))

pub word_of-requires : goal.word_of-requires
word_of-requires c =
    let named = rw c.in-Some-2.is at c.in_ok-matches.ensures.some in
    (named-some (found_of c.in-Some-2.matches) (codes "AUCTION" ∷ codes "JOURNALS" ∷ codes "ADDRESS" ∷ []) (texts c.args.words.now) named).0

pub word_of-requires-2 : goal.word_of-requires-2
word_of-requires-2 c =
    let named = rw c.in-Some-2.is at c.in_ok-matches.ensures.some in
    (named-some (found_of c.in-Some-2.matches) (codes "AUCTION" ∷ codes "JOURNALS" ∷ codes "ADDRESS" ∷ []) (texts c.args.words.now) named).1.0

pub word_of-requires-3 : goal.word_of-requires-3
word_of-requires-3 c =
    let named = rw c.in-Some-2.is at c.in_ok-matches.ensures.some in
    (named-some (found_of c.in-Some-2.matches) (codes "AUCTION" ∷ codes "JOURNALS" ∷ codes "ADDRESS" ∷ []) (texts c.args.words.now) named).1.1.0

pub returns-clause-some : goal.returns-clause-some
returns-clause-some c = λ line parted.
    let named = rw c.in-Some-2.is at c.in_ok-matches.ensures.some in
    spells-serve (found_of c.in-Some-2.matches) c.word_of.result.now c.word_of-2.result.now (record { address = c.word_of-3.result.now; doors = c.in-Some.doors; sessions = c.in-Some-number_of.sessions })
    line (texts c.args.words.now) (texts c.args.options.now) named c.word_of.ensures c.word_of-2.ensures c.word_of-3.ensures parted c.in-Some.ensures.some c.in-Some-number_of.ensures.some
