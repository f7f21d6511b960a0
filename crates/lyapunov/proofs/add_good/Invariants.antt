use Rattle.std.proofs.Common.{◌≡◌, ◌<◌, ◌+◌, ℕ, get_or}
use Rattle.lyapunov.proofs.add_good.Given as goal

abbrev pub invariant-loop-set : goal.invariant-loop-set
invariant-loop-set l = record {
  before : (k : ℕ) → k < l.sets → get_or l.units k 0 ≡ get_or l.initial.units k 0;
  more : (k : ℕ) → k < l.set → get_or l.units (l.sets + k) 0 ≡ get_or l.initial.units k 0 + l.more;
}
