use Rattle.std.proofs.Common.{◌≡◌, ◌≤◌, length, drop, vec_capacity}
use Rattle.std.specs.VecDeque.{deque_capacity}
use Rattle.clock_family.specs.Opening.{AreLaid}
use Rattle.clock_family.proofs.opening.lay_all.Given as goal

abbrev pub invariant-loop-clock : goal.invariant-loop-clock
invariant-loop-clock g l = record {
  are : AreLaid g.D.Disk.shown l.terms l.digest l.passes l.fn.disks.items l.laid.items;
  count : length l.laid.items ≡ l.clock;
  rest : l.rest.items ≡ drop l.clock l.fn.disks.items;
  room : length l.fn.disks.items ≤ deque_capacity l.rest;
  space : length l.fn.disks.items ≤ vec_capacity l.laid;
}
