use Rattle.std.proofs.Common.{◌≡◌, take}
use Rattle.std.specs.List.{flat_map}
use Rattle.house_run.specs.BidCommand.{look_line}
use Rattle.house_run.proofs.commands.bid.looks_text.Given as goal

abbrev pub invariant-loop-seen : goal.invariant-loop-seen
invariant-loop-seen l = l.text.items ≡ flat_map look_line (take l.seen-index l.looks)
