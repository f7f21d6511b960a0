use Rattle.std.proofs.Common.{◌≡◌, ◌≤◌, ◌<◌, ℕ, pos, ◌+ℤ◌, slice_index}
use Rattle.lyapunov.specs.Excesses.{entry}
use Rattle.lyapunov.proofs.add_table.Given as goal

abbrev pub invariant-loop-set : goal.invariant-loop-set
invariant-loop-set l = record {
  before : (k : ℕ) → k < l.set → entry l.excess.0 k ≡ entry l.fn.excess.0 k +ℤ pos (slice_index l.table.0 k);
  behind : (k : ℕ) → l.set ≤ k → entry l.excess.0 k ≡ entry l.fn.excess.0 k;
}
