use Rattle.std.proofs.Common.{take}
use Rattle.std.specs.List.{AllZip, AllByRecursion}
use Rattle.clock.specs.Judging.{IsLegal}
use Rattle.clock.specs.Reports.{histories}
use Rattle.settlement.specs.Settling.{IsClockRow}
use Rattle.settlement.proofs.choosing.clock_rows.Given as goal

abbrev pub invariant-loop-clock : goal.invariant-loop-clock
invariant-loop-clock l = AllZip IsClockRow (take l.clock-index (histories l.clocks)) l.rows.items × AllByRecursion IsLegal (take l.clock-index (histories l.clocks))
