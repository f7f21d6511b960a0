use Rattle.std.proofs.Common.{◌≡◌, ◌≤◌, ◌+◌, ◌*◌, drop}
use Rattle.house_run.specs.MakeCommand.{steps_in}
use Rattle.house_run.proofs.commands.make.steps_in.Given as goal

abbrev pub invariant-loop-row : goal.invariant-loop-row
invariant-loop-row l = record {
  sum : l.steps + steps_in (drop l.row-index l.rows) ≡ steps_in l.rows;
  small : l.steps ≤ 4294967296 * l.row-index;
}
