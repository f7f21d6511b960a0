use Rattle.std.proofs.Common.{◌≡◌, ◌<◌, ◌≤◌, ◌+◌, ◌-◌, take}
use Rattle.report_log.specs.Logs.{log_limit}
use Rattle.report_log.proofs.PieceReading.{SoFar}
use Rattle.report_log.proofs.pieces.read_pieces.Given as goal

abbrev pub invariant-pulls : goal.invariant-pulls
invariant-pulls g l = record {
  terms : l.reader.clock.history.terms ≡ l.terms;
  few : l.so_far ≤ log_limit + 1;
  short : l.held < 32772;
  within : l.held ≤ l.so_far;
  steady : g.R.Source.faults l.source ≡ g.R.Source.faults l.initial.source;
  read : SoFar l.terms l.reader.clock.history l.reader.fault (g.R.Source.left l.initial.source) (g.R.Source.left l.source) l.so_far (take l.held l.buffer);
}

abbrev pub decreases-pulls : goal.decreases-pulls
decreases-pulls g l = log_limit + 1 - l.so_far
