use Rattle.std.proofs.Common.{◌≡◌, map}
use Rattle.house_io.specs.LinkForms.{with_places}
use Rattle.house_io.proofs.memory.sure_net.placed_doors.Given as goal

abbrev pub invariant-loop-door : goal.invariant-loop-door
invariant-loop-door l = l.placed.items ≡ map with_places l.yielded
