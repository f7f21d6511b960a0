use Rattle.std.proofs.Common.{◌∙◌, sym, ap}
use Rattle.command_line.specs.Arguments.{takes}
use Rattle.command_line.proofs.Parting.{valued-known}
use Rattle.command_line.proofs.arguments.value_of.Goals as goal

pub returns-clause-known : goal.returns-clause-known
returns-clause-known c =
    valued-known c.args.name.now c.args.word.now c.as_str-2.result.now
    (ap (takes c.args.name.now c.args.word.now) (c.as_str-2.ensures.value ∙ sym c.as_str.ensures.value) ∙ sym c.takes.ensures ∙ c.if-not-takes.false)
