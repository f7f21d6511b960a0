use Rattle.std.proofs.Common.{arith}
use Rattle.report_log.proofs.PieceReading.{gives-cut, gives-fault, gives-log}
use Rattle.report_log.proofs.pieces.LogReader.finish.Goals as goal

pub returns-in-Some : goal.returns-in-Some
returns-in-Some c terms read rest size left has = gives-fault terms c.args.self.clock.history c.args.self.fault c.in-Some.place read rest c.in-Some.is has

pub returns-then-left-gt0 : goal.returns-then-left-gt0
returns-then-left-gt0 c terms read rest size left has = gives-cut terms c.args.self.clock.history c.args.self.fault read rest c.args.so_far c.args.left c.in-None.is has size left (omega arith)

pub returns-else-left-gt0 : goal.returns-else-left-gt0
returns-else-left-gt0 c terms read rest size left has = gives-log terms c.args.self.clock.history c.args.self.fault read rest c.in-None.is has (omega (arith, left))
