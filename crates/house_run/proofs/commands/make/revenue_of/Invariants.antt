use Rattle.std.proofs.Common.{◌≡◌, ◌*◌, drop, pos, ◌+ℤ◌, neg_ℤ, ◌≤ℤ◌}
use Rattle.house_run.specs.MakeCommand.{revenue_of}
use Rattle.house_run.proofs.commands.make.revenue_of.Given as goal

abbrev pub invariant-loop-row : goal.invariant-loop-row
invariant-loop-row l = record {
  sum : (l.revenue +ℤ revenue_of (drop l.row-index l.rows)) ≡ revenue_of l.rows;
  low : neg_ℤ (pos (9223372036854775808 * l.row-index)) ≤ℤ l.revenue;
  high : l.revenue ≤ℤ pos (9223372036854775808 * l.row-index);
}
