use Rattle.std.proofs.Common.{arith}
use Rattle.lyapunov.proofs.Entries.{IsFew-room, IsExcessOf-more, IsExcessOf-room}
use Rattle.lyapunov.proofs.excess.Goals as goal

pub add_table-requires-clause-room : goal.add_table-requires-clause-room
add_table-requires-clause-room c = IsExcessOf-room c.args.goods.now c.args.tables.now c.loop-table.table-index c.loop-table.excess.0 (IsFew-room c.args.goods.now c.opening-excess.result.0 c.opening-excess.ensures.excess c.opening-excess.ensures.room) c.requires.small (omega arith) c.loop-table.invariant

pub loop-table-preserved : goal.loop-table-preserved
loop-table-preserved c = IsExcessOf-more c.args.goods.now c.args.tables.now c.loop-table.table-index _ c.loop-table.excess.0 c.add_table.new.excess.0 c.loop-table-test.true c.loop-table.invariant c.add_table.ensures
