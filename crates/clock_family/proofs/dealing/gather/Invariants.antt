use Rattle.std.proofs.Common.{◌≡◌, ◌≤◌, ◌++◌, length, vec_capacity}
use Rattle.std.specs.Vec.Iter.{into_iter_items, into_iter_len}
use Rattle.clock_family.specs.Rows.{items_of, rows_of}
use Rattle.clock_family.proofs.dealing.gather.Given as goal

abbrev pub invariant-loop-row : goal.invariant-loop-row
invariant-loop-row g l = record {
  same : l.yielded ++ into_iter_items l.row-iterator ≡ l.fn.rows.items;
  left : into_iter_len l.row-iterator ≡ length (into_iter_items l.row-iterator);
  passes : rows_of l.passes.items ≡ items_of l.yielded;
  space : length l.fn.rows.items ≤ vec_capacity l.passes;
}
