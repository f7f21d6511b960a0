use Rattle.std.proofs.Common.{◌≡◌, ◌++◌, List, take, drop, length}
use Rattle.std.specs.List.{AllByRecursion}
use Rattle.clock_book.specs.declared.entries.Entry.{Entry}
use Rattle.clock_book.specs.declared.origins.Origin.{Origin}
use Rattle.turn_desk.specs.Passes.{Known}
use Rattle.clock_family.specs.Closing.{IsRoomy}
use Rattle.clock_family.specs.Rows.{dealt, items_of}
use Rattle.clock_family.proofs.dealing.deal_column.Given as goal

abbrev pub invariant-loop-pass : goal.invariant-loop-pass
invariant-loop-pass g l = record {
  done : (done : List (Known Entry Origin)) × (l.initial.passes.items ≡ l.passes.items ++ done)
      × (items_of l.rows.items ≡ take (length l.passes.items) (items_of l.initial.rows.items) ++ dealt (drop (length l.passes.items) (items_of l.initial.rows.items)) done);
  many : length l.rows.items ≡ length l.initial.rows.items;
  room : AllByRecursion (IsRoomy l.clocks) l.rows.items;
}

abbrev pub decreases-loop-pass : goal.decreases-loop-pass
decreases-loop-pass g l = length l.passes.items
