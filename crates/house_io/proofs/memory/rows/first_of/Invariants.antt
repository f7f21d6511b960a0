use Rattle.std.proofs.Common.{◌≡◌, ◌≤◌, ◌+◌, ◌++◌, take, drop, vec_len, vec_capacity}
use Rattle.house_io.proofs.memory.rows.first_of.Given as goal

-- the first so many were given
abbrev pub invariant-loop-turn : goal.invariant-loop-turn
invariant-loop-turn g l = record {
  given : l.given.items ≡ l.initial.given.items ++ take l._turn l.initial.row.items;
  rest : l.row.items ≡ drop l._turn l.initial.row.items;
  len : vec_len l.given ≤ vec_len l.initial.given + l._turn;
  capacity : vec_capacity l.given ≡ vec_capacity l.initial.given;
}
