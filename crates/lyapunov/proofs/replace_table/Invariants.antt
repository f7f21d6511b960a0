use Rattle.std.proofs.Common.{◌≡◌, ◌≤◌, ◌<◌, ℕ, pos, ◌+ℤ◌, ◌-ℤ◌, slice_index}
use Rattle.lyapunov.specs.Excesses.{entry}
use Rattle.lyapunov.proofs.replace_table.Given as goal

abbrev pub invariant-loop-number : goal.invariant-loop-number
invariant-loop-number l = record {
  before : (k : ℕ) → k < l.number → entry l.excess.0 k ≡ (entry l.fn.excess.0 k -ℤ pos (slice_index l.old.0 k)) +ℤ pos (slice_index l.new.0 k);
  behind : (k : ℕ) → l.number ≤ k → entry l.excess.0 k ≡ entry l.fn.excess.0 k;
}
