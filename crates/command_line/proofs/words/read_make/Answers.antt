use Rattle.clap.specs.Words.{found_of}
use Rattle.command_line.specs.Positionals.{texts}
use Rattle.command_line.proofs.NamedWords.{no-make, spells-make}
use Rattle.command_line.proofs.OptionWords.{text-count}
use Rattle.command_line.proofs.words.read_make.Goals as goal

pub returns-in_default-clause-none : goal.returns-in_default-clause-none
returns-in_default-clause-none c = λ line parted. no-make line (texts c.args.words.now) (texts c.args.options.now) parted (λ number workers few same option. c.in_default.ensures.none workers option)

pub returns-in_default-2-clause-none : goal.returns-in_default-2-clause-none
returns-in_default-2-clause-none c = λ line parted. no-make line (texts c.args.words.now) (texts c.args.options.now) parted (λ number workers few same option. let other = rw c.in_default-2.is at c.in_ok-matches.ensures.none in other (text-count c.args.words.now _ same))

pub returns-in-Some-read_number-clause-some : goal.returns-in-Some-read_number-clause-some
returns-in-Some-read_number-clause-some c = λ line parted.
    let named = rw c.in-Some-2.is at c.in_ok-matches.ensures.some in
    let digits = c.in-Some-read_number.ensures.some in
    spells-make (found_of c.in-Some-2.matches) c.word_of.result.now c.in-Some-read_number.number c.in-Some.workers line (texts c.args.words.now) (texts c.args.options.now) named c.word_of.ensures digits.0 digits.2 parted c.in-Some.ensures.some
