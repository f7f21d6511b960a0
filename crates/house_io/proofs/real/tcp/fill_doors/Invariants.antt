use Rattle.std.proofs.Common.{◌≡◌, ℕ, vec_len, vec_capacity}
use Rattle.std.specs.List.{AllByRecursion}
use Rattle.house_io.proofs.real.tcp.fill_doors.Given as goal

abbrev pub invariant-loop-turn : goal.invariant-loop-turn
invariant-loop-turn g l = record {
  count : vec_len l.doors ≡ l._turn;
  capacity : vec_capacity l.doors ≡ vec_capacity l.initial.doors;
  fresh : AllByRecursion (λ (faults : ℕ). faults ≡ 0) l.doors.items;
}
