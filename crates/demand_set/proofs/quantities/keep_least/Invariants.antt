use Rattle.std.proofs.Common.{◌≡◌, ◌*◌, ◌+◌, ◌<◌, ◌≤◌, ℕ, get_or, min}
use Rattle.demand_set.proofs.quantities.keep_least.Given as goal

abbrev pub invariant-loop-row : goal.invariant-loop-row
invariant-loop-row l = record {
  kept : (row set : ℕ) → row < l.row → set < 8 → get_or l.table (8 * row + set) 0 ≡ min (get_or l.initial.table (8 * row + set) 0) (get_or l.halves.low set 0 + get_or l.halves.high row 0);
  behind : (place : ℕ) → 8 * l.row ≤ place → get_or l.table place 0 ≡ get_or l.initial.table place 0;
}
