use Rattle.std.proofs.Common.{◌≡◌, ◌≤◌, length, vec_capacity}
use Rattle.std.specs.List.{AllByRecursion}
use Rattle.clock_family.specs.Closing.{IsSpare}
use Rattle.clock_family.proofs.dealing.reserve_lists.Given as goal

abbrev pub invariant-loop-made : goal.invariant-loop-made
invariant-loop-made g l = record {
  spare : AllByRecursion (IsSpare l.room) l.lists.items;
  room : l.count ≤ vec_capacity l.lists;
  made : length l.lists.items ≡ l.made;
}
