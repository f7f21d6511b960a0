use Rattle.std.proofs.Common.{take}
use Rattle.lyapunov.specs.Excesses.{IsExcessOf}
use Rattle.lyapunov.proofs.excess.Given as goal

abbrev pub invariant-loop-table : goal.invariant-loop-table
invariant-loop-table l = IsExcessOf l.goods (take l.table-index l.tables) l.excess.0
