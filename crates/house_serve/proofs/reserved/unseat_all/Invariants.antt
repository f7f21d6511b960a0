use Rattle.std.proofs.Common.{◌≡◌, ◌≤◌, ◌+◌, ◌++◌, length, map, vec_capacity}
use Rattle.house_serve.specs.Booths.{log_of}
use Rattle.house_serve.proofs.reserved.unseat_all.Given as goal

abbrev pub invariant-loop-booth : goal.invariant-loop-booth
invariant-loop-booth g l = record {
  passes : l.rows.items ++ map (λ c. c.pass) l.booths.items ≡ map (λ c. c.pass) l.fn.booths.items;
  logs : l.logs.items ++ map log_of l.booths.items ≡ map log_of l.fn.booths.items;
  rows : length l.rows.items + length l.booths.items ≤ vec_capacity l.rows;
  room : length l.logs.items + length l.booths.items ≤ vec_capacity l.logs;
}

abbrev pub decreases-loop-booth : goal.decreases-loop-booth
decreases-loop-booth g l = length l.booths.items
