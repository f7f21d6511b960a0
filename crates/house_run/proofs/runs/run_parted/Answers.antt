use Rattle.command_line.specs.CommandView.{command_as}
use Rattle.command_line.proofs.PlainWords.{spelled-ready}
use Rattle.house_run.proofs.runs.run_parted.Goals as goal

pub run_command-requires-clause-ready : goal.run_command-requires-clause-ready
run_command-requires-clause-ready g c = λ places outlive.
    let spells = rw c.in-Ok-Some.field-0-is at c.in-Ok-Some.ensures.some in
    spelled-ready (command_as c.in-Ok-Some.command) c.requires.some.0 (spells c.requires.some.0 c.requires.some.1)
