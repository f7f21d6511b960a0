use Rattle.std.proofs.Common.{◌∙◌, ap, refl, sym}
use Rattle.std.specs.List.{list_all}
use Rattle.command_line.specs.Arguments.{is_argument, joined}
use Rattle.command_line.specs.Words.{words_of}
use Rattle.command_line.proofs.PlainWords.{may-be, unknown}
use Rattle.command_line.proofs.arguments.join_after.Goals as goal

pub returns-then-not-are_arguments-clause-none : goal.returns-then-not-are_arguments-clause-none
returns-then-not-are_arguments-clause-none c = unknown c.args.name.now (words_of c.args.behind.now) (sym c.are_arguments.ensures ∙ c.if-not-are_arguments.true)

pub returns-in-Ok-clause-some : goal.returns-in-Ok-clause-some
returns-in-Ok-clause-some c = record {
  behind = words_of c.args.behind.now;
  words_are = refl;
  named = sym c.is_name.ensures ∙ c.if-not-is_name.false;
  arguments_are = c.in-Ok.ensures;
  known = ap (list_all (is_argument c.args.name.now)) c.in-Ok.ensures ∙ sym c.are_arguments.ensures ∙ c.if-not-are_arguments.false;
}

pub returns-in-Err-clause-memory : goal.returns-in-Err-clause-memory
returns-in-Err-clause-memory c = may-be _ c.args.name.now (joined c.args.name.now (words_of c.args.behind.now)) (record {
  behind = words_of c.args.behind.now;
  words_are = refl;
  named = sym c.is_name.ensures ∙ c.if-not-is_name.false;
  arguments_are = refl;
  known = sym c.are_arguments.ensures ∙ c.if-not-are_arguments.false;
})
