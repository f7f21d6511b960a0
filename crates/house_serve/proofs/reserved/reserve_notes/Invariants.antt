use Rattle.std.proofs.Common.{◌≡◌, ◌≤◌, length, vec_len, vec_capacity}
use Rattle.std.specs.Prelude.{All}
use Rattle.house_serve.proofs.reserved.reserve_notes.Given as goal

abbrev pub invariant-loop-door : goal.invariant-loop-door
invariant-loop-door l = record {
  count : length l.notes.items ≡ l._door;
  room : vec_capacity l.notes ≡ l.doors;
  each : All (λ e. (length e.items ≡ 0) × (vec_len e ≡ 0) × (l.sessions ≤ vec_capacity e)) l.notes.items;
}
