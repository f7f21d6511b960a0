use Rattle.command_line.specs.Positionals.{texts}
use Rattle.command_line.proofs.OptionWords.{none-then, value-refused}
use Rattle.command_line.proofs.options.number_of.Goals as goal

pub returns-in-Once-clause-none : goal.returns-in-Once-clause-none
returns-in-Once-clause-none c =
    none-then c.read_number.result _ _ (λ none number is. value-refused c.args.front.now c.in-Once.value.now c.args.low c.args.high c.args.default (texts c.args.options.now) c.in-Once.ensures none number is) c.read_number.ensures.none
