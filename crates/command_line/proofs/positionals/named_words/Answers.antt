-- What the parse took is the words by their ids; what it refused, though memory was there, is another number of words.
use Rattle.std.proofs.Common.{◌∙◌}
use Rattle.clap.specs.Words.{found_of, kind_of}
use Rattle.command_line.specs.Positionals.{texts}
use Rattle.command_line.proofs.PlainWords.{plain-words}
use Rattle.command_line.proofs.Taking.{accepted, refused, few-ids, same-count}
use Rattle.command_line.proofs.positionals.named_words.Goals as goal

pub returns-in-Ok-try_get_matches_from-clause-some : goal.returns-in-Ok-try_get_matches_from-clause-some
returns-in-Ok-try_get_matches_from-clause-some c =
    accepted _ c.args.name.now (texts c.args.ids.now) (texts c.args.words.now) (found_of c.in-Ok-try_get_matches_from.matches) c.in-Ok.ensures (few-ids c.args.ids.now c.requires.few) c.requires.distinct (plain-words c.args.words.now c.requires.plain)
    (λ e. (c.in-Ok-try_get_matches_from.ensures.matches e).0) c.in-Ok-try_get_matches_from.ensures.kinds

pub returns-clause-none : goal.returns-clause-none
returns-clause-none c = λ same.
    refused _ c.args.name.now (texts c.args.ids.now) (texts c.args.words.now) (kind_of c.in-Err-try_get_matches_from.error) c.in-Ok.ensures (few-ids c.args.ids.now c.requires.few) c.requires.distinct (plain-words c.args.words.now c.requires.plain)
    c.in-Err-try_get_matches_from.ensures.passes (λ e. c.in_default.not-OutOfMemory (c.kind.ensures ∙ e)) (same-count c.args.ids.now c.args.words.now same)
