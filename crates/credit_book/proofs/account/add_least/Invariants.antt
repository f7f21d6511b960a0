use Rattle.std.proofs.Common.{◌≡◌, ◌≤◌, ◌<◌, ◌+◌, ◌^◌, ℕ, None, slice_index, slice_index_or}
use Rattle.credit_book.specs.Account.{least_in}
use Rattle.credit_book.proofs.account.add_least.Given as goal

abbrev pub invariant-loop-place : goal.invariant-loop-place
invariant-loop-place l = record {
  added : (j : ℕ) → j < l.place → slice_index l.sums j ≡ slice_index l.initial.sums j + least_in (slice_index_or l.tables j None) l.set;
  small : (j : ℕ) → slice_index l.sums j < slice_index l.initial.sums j + 2 ^ 32;
  others : (j : ℕ) → l.place ≤ j → slice_index l.sums j ≡ slice_index l.initial.sums j;
}
