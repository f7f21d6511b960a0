use Rattle.clap.specs.Words.{found_of}
use Rattle.command_line.specs.CommandView.{command_as}
use Rattle.command_line.specs.Givens.{migrate_ids}
use Rattle.command_line.specs.Positionals.{texts}
use Rattle.command_line.proofs.NamedWords.{named-some, no-migrate, spells-migrate}
use Rattle.command_line.proofs.OptionWords.{none-then, some-value}
use Rattle.command_line.proofs.PlainWords.{plain-words}
use Rattle.command_line.proofs.words.read_migrate.Goals as goal

pub migrate_of-requires : goal.migrate_of-requires
migrate_of-requires c =
    let named = rw c.in-Some.is at c.in_ok-matches.ensures.some in
    named-some (found_of c.in-Some.matches) migrate_ids (texts c.args.words.now) named

pub returns-clause-some : goal.returns-clause-some
returns-clause-some c =
    let named = rw c.in-Some.is at c.in_ok-matches.ensures.some in
    some-value c.migrate_of.result _ _ (λ command is. spells-migrate (found_of c.in-Some.matches) (command_as command) (texts c.args.words.now) named is (plain-words c.args.words.now c.requires)) c.migrate_of.ensures.some

pub returns-clause-none : goal.returns-clause-none
returns-clause-none c =
    let named = rw c.in-Some.is at c.in_ok-matches.ensures.some in
    none-then c.migrate_of.result _ _ (λ same. no-migrate (found_of c.in-Some.matches) same.0 (texts c.args.words.now) named same.1 same.2) c.migrate_of.ensures.none
