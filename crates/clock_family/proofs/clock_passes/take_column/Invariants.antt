use Rattle.std.proofs.Common.{◌≡◌, ◌-◌, ◌≤◌, ◌++◌, take, drop, length, vec_len, vec_capacity}
use Rattle.clock_family.specs.Rows.{cells, fronts, rows_of}
use Rattle.clock_family.proofs.clock_passes.take_column.Given as goal

abbrev pub invariant-loop-row : goal.invariant-loop-row
invariant-loop-row g l = record {
  within : l.row ≤ length l.initial.rows.items;
  long : length l.rows.items ≡ length l.initial.rows.items;
  count : vec_len l.list ≡ l.row;
  room : vec_capacity l.list ≡ vec_capacity l.initial.list;
  list : l.list.items ≡ cells l.clock (take l.row (rows_of l.initial.rows.items));
  rows : rows_of l.rows.items ≡ fronts l.clock (take l.row (rows_of l.initial.rows.items)) ++ drop l.row (rows_of l.initial.rows.items);
}

abbrev pub decreases-loop-row : goal.decreases-loop-row
decreases-loop-row g l = length l.initial.rows.items - l.row
