use Rattle.std.proofs.Common.{◌≤◌, ◌+◌, length}
use Rattle.std.specs.VecDeque.{deque_capacity}
use Rattle.std.specs.List.{AllByRecursion}
use Rattle.clock_family.specs.Opening.{IsUnused}
use Rattle.clock_family.proofs.Unused.{AreTaken}
use Rattle.clock_family.proofs.opening.given_back.Given as goal

abbrev pub invariant-loop-stand : goal.invariant-loop-stand
invariant-loop-stand g l = record {
  taken : AreTaken g.D.Disk.shown l.initial.laid.items l.initial.disks.items l.laid.items l.disks.items;
  unused : AllByRecursion IsUnused l.laid.items;
  room : length l.disks.items + length l.laid.items ≤ deque_capacity l.disks;
}

abbrev pub decreases-loop-stand : goal.decreases-loop-stand
decreases-loop-stand g l = length l.laid.items
