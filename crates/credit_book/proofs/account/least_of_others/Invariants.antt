use Rattle.std.proofs.Common.{◌≤◌, ◌*◌, ◌-◌, ◌^◌, slice_index}
use Rattle.credit_book.proofs.Totals.{IsTotalUpTo}
use Rattle.credit_book.proofs.account.least_of_others.Given as goal

abbrev pub invariant-loop-other : goal.invariant-loop-other
invariant-loop-other l = record {
  sum : IsTotalUpTo (λ j. slice_index l.least j) l.bidder l.other l.total;
  small : l.total ≤ (l.other - 1) * 2 ^ 48;
}
