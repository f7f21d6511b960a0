use Rattle.std.proofs.Common.{◌≡◌, ◌≤◌, ◌+◌, ◌++◌, length}
use Rattle.std.specs.VecDeque.{deque_capacity}
use Rattle.migration.specs.Targets.{disks_of}
use Rattle.migration.proofs.targets.close_books.Given as goal

abbrev pub invariant-loop-book : goal.invariant-loop-book
invariant-loop-book g l = record {
  same : disks_of l.books.items ++ l.disks.items ≡ disks_of l.initial.books.items ++ l.initial.disks.items;
  room : length l.disks.items + length l.books.items ≤ deque_capacity l.disks;
}

abbrev pub decreases-loop-book : goal.decreases-loop-book
decreases-loop-book g l = length l.books.items
