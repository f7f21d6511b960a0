use Rattle.std.proofs.Common.{◌≡◌, map}
use Rattle.house_io.specs.LinkForms.{ready_door}
use Rattle.house_io.proofs.memory.list_net.ready_doors.Given as goal

abbrev pub invariant-loop-door : goal.invariant-loop-door
invariant-loop-door l = l.ready.items ≡ map ready_door l.yielded
