use Rattle.std.proofs.Common.{◌≡◌, ◌+◌, ◌≤◌, map, take, drop, length, vec_capacity}
use Rattle.std.specs.List.{AllByRecursion}
use Rattle.clock_family.specs.Closing.{IsRoomy}
use Rattle.clock_family.specs.Opening.{LaidOf}
use Rattle.clock_family.specs.Rows.{items_of, AreDealt}
use Rattle.clock_family.proofs.dealing.deal.Given as goal

abbrev pub invariant-loop-stand : goal.invariant-loop-stand
invariant-loop-stand g l = record {
  within : l.clock + length l.laid.items ≡ l.clocks;
  whole : l.clocks ≡ length l.fn.laid.items;
  rest : l.laid.items ≡ drop l.clock l.fn.laid.items;
  desks : l.desks.items ≡ map (λ (x : LaidOf g.row.D.Denot). x.desk) (take l.clock l.fn.laid.items);
  dealt : AreDealt (take l.clock l.fn.laid.items) (items_of l.rows.items);
  many : length l.rows.items ≡ length l.initial.rows.items;
  room : AllByRecursion (IsRoomy l.clocks) l.rows.items;
  space : l.clocks ≤ vec_capacity l.desks;
}

abbrev pub decreases-loop-stand : goal.decreases-loop-stand
decreases-loop-stand g l = length l.laid.items
