use Rattle.std.proofs.Common.{◌≡◌, ◌<◌, ◌≤◌, ◌-◌, ◌*◌, ℕ, length, slice_index, take}
use Rattle.valuation.specs.Carried.{greatest}
use Rattle.valuation.proofs.paying.pay_once.Given as goal

abbrev pub invariant-loop-place : goal.invariant-loop-place
invariant-loop-place l = record {
  whole : length l.worth ≡ length l.fn.worth;
  before : (k : ℕ) → k < l.place → slice_index l.worth k ≡ slice_index l.fn.worth k - 1 * slice_index l.units k;
  behind : (k : ℕ) → l.place ≤ k → slice_index l.worth k ≡ slice_index l.fn.worth k;
  best : l.best ≡ greatest (take l.place l.worth);
}
