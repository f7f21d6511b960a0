use Rattle.std.proofs.Common.{◌≡◌, length, take, drop}
use Rattle.std.specs.List.{AllZip, AllByRecursion}
use Rattle.std.specs.Vec.Iter.{into_iter_items, into_iter_len}
use Rattle.clock.specs.Judging.{IsLegal}
use Rattle.clock.specs.Reports.{histories}
use Rattle.settlement.specs.Found.{IsFoundOf}
use Rattle.settlement.specs.Settling.{IsClockRow}
use Rattle.settlement.proofs.choosing.found_rows.Given as goal

abbrev pub invariant-loop-clock : goal.invariant-loop-clock
invariant-loop-clock l = record {
  count : into_iter_len l.found ≡ length (into_iter_items l.found);
  left : AllZip IsFoundOf (drop l.clock-index (histories l.clocks)) (into_iter_items l.found);
  rows : AllZip IsClockRow (take l.clock-index (histories l.clocks)) l.rows.items;
  legal : AllByRecursion IsLegal (take l.clock-index (histories l.clocks));
}
