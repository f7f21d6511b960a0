use Rattle.std.proofs.Common.{◌≡◌, ◌≤◌, length, drop, vec_capacity}
use Rattle.std.specs.VecDeque.{deque_capacity}
use Rattle.migration.specs.Targets.{AreOpen}
use Rattle.migration.proofs.targets.open_books.Given as goal

abbrev pub invariant-loop-clock : goal.invariant-loop-clock
invariant-loop-clock g l = record {
  are : AreOpen g.D.Disk.shown l.terms l.digest l.fn.disks.items l.books.items;
  count : length l.books.items ≡ l.clock;
  rest : l.rest.items ≡ drop l.clock l.fn.disks.items;
  room : length l.fn.disks.items ≤ deque_capacity l.rest;
  space : length l.fn.disks.items ≤ vec_capacity l.books;
}
