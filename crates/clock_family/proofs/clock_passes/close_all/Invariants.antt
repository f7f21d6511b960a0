use Rattle.std.proofs.Common.{◌≡◌, ◌+◌, ◌≤◌, List, ◌++◌, length, reverse, vec_len, vec_capacity}
use Rattle.std.specs.List.{AllByRecursion}
use Rattle.turn_desk.specs.Passes.{Opened}
use Rattle.clock_book.specs.Books.{BookOf}
use Rattle.clock_family.specs.Closing.{IsSpare}
use Rattle.clock_family.proofs.Closed.{AreClosedFrom}
use Rattle.clock_family.specs.Rows.{fronts, rows_of}
use Rattle.clock_family.proofs.clock_passes.close_all.Given as goal

abbrev pub invariant-loop-desk : goal.invariant-loop-desk
invariant-loop-desk g l = record {
  done : (done : List (Opened (BookOf g.row.D.Denot))) × (l.initial.desks.items ≡ l.desks.items ++ done);
  closed : AreClosedFrom (length l.desks.items) l.initial.desks.items l.initial.rows.items (reverse l.books.items);
  rows : rows_of l.rows.items ≡ fronts (length l.desks.items) (rows_of l.initial.rows.items);
  many : vec_len l.rows ≡ vec_len l.initial.rows;
  lists : length l.desks.items ≤ length l.lists.items;
  spare : AllByRecursion (IsSpare (vec_len l.initial.rows)) l.lists.items;
  room : vec_len l.books + length l.desks.items ≤ vec_capacity l.books;
}

abbrev pub decreases-loop-desk : goal.decreases-loop-desk
decreases-loop-desk g l = vec_len l.desks
