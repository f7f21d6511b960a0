use Rattle.std.proofs.Common.{◌≡◌, take}
use Rattle.std.specs.List.{flat_map}
use Rattle.clock.specs.Reports.{histories}
use Rattle.house_run.specs.Texts.{standing_of}
use Rattle.house_run.proofs.commands.standing.standing_text.Given as goal

abbrev pub invariant-loop-clock : goal.invariant-loop-clock
invariant-loop-clock l = l.text.items ≡ flat_map standing_of (histories (take l.clock-index l.clocks))
