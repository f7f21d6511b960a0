use Rattle.std.proofs.Common.{◌≡◌, take}
use Rattle.std.specs.List.{flat_map}
use Rattle.clock.specs.Reports.{histories}
use Rattle.house_run.specs.MigrateCommand.{moved_line}
use Rattle.house_run.proofs.commands.migrate.moved_text.Given as goal

abbrev pub invariant-loop-clock : goal.invariant-loop-clock
invariant-loop-clock l = l.text.items ≡ flat_map moved_line (histories (take l.clock-index l.clocks))
