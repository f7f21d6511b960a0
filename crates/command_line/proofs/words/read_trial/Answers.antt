use Rattle.std.proofs.Common.{[], ◌∷◌}
use Rattle.std.specs.Prelude.{codes}
use Rattle.clap.specs.Words.{found_of}
use Rattle.command_line.specs.Positionals.{texts}
use Rattle.command_line.proofs.NamedWords.{named-some, no-trial, spells-trial}
use Rattle.command_line.proofs.OptionWords.{text-count}
use Rattle.command_line.proofs.words.read_trial.Goals as goal

pub returns-in_default-clause-none : goal.returns-in_default-clause-none
returns-in_default-clause-none c = λ line parted. no-trial line (texts c.args.words.now) (texts c.args.options.now) parted (λ one other value same option. c.in_default.ensures.none value option)

pub returns-in_default-2-clause-none : goal.returns-in_default-2-clause-none
returns-in_default-2-clause-none c = λ line parted. no-trial line (texts c.args.words.now) (texts c.args.options.now) parted (λ one other value same option. let other = rw c.in_default-2.is at c.in_ok-matches.ensures.none in other (text-count c.args.words.now _ same))

pub word_of-requires-2 : goal.word_of-requires-2
word_of-requires-2 c =
    let named = rw c.in-Some-2.is at c.in_ok-matches.ensures.some in
    (named-some (found_of c.in-Some-2.matches) (codes "AUCTION" ∷ codes "VALUES" ∷ []) (texts c.args.words.now) named).1.0

pub returns-clause-some : goal.returns-clause-some
returns-clause-some c = λ line parted.
    let named = rw c.in-Some-2.is at c.in_ok-matches.ensures.some in
    spells-trial (found_of c.in-Some-2.matches) c.word_of.result.now c.word_of-2.result.now c.in-Some.workers line (texts c.args.words.now) (texts c.args.options.now) named c.word_of.ensures c.word_of-2.ensures parted c.in-Some.ensures.some
