use Rattle.std.proofs.Common.{◌≤◌, ◌+◌, length, vec_capacity}
use Rattle.house_run.proofs.GivingSteps.{BooksApart}
use Rattle.house_run.proofs.giving_back.take_apart.Given as goal

-- the books before these were taken apart
abbrev pub invariant-loop-book : goal.invariant-loop-book
invariant-loop-book g l = record {
  apart : BooksApart g.D.Disk.shown l.fn.books.items l.rest.items l.clocks.items l.disks.items;
  clocks : length l.clocks.items + length l.rest.items ≤ vec_capacity l.clocks;
  disks : length l.disks.items + length l.rest.items ≤ vec_capacity l.disks;
}

abbrev pub decreases-loop-book : goal.decreases-loop-book
decreases-loop-book g l = length l.rest.items
