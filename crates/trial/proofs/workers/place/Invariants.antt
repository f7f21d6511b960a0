use Rattle.std.proofs.Common.{◌≡◌, ◌<◌, ◌+◌, ℕ, length, Option}
use Rattle.std.specs.Prelude.{IfSome, slice_index_or}
use Rattle.std.specs.List.{AllByRecursion}
use Rattle.exchange_check.specs.Verdicts.{IsRight}
use Rattle.exchange_check.specs.declared.verdict.Verdict.{Verdict}
use Rattle.trial.specs.Bidding.{bidders_of}
use Rattle.trial.specs.Workers.{IsPieceOf, IsToldOf, ArePlaced}
use Rattle.trial.specs.declared.workers.Told.{Told}
use Rattle.trial.proofs.workers.place.Given as goal

abbrev pub invariant-loop : goal.invariant-loop
invariant-loop l = record {
  count : length l.told.items ≡ l.counter;
  each : (k : ℕ) (d : Option Told) → k < length l.told.items → IfSome (slice_index_or l.told.items k d) (IsToldOf l.fn.terms (bidders_of l.fn.terms.goods l.fn.valuations) k);
}

abbrev pub invariant-loop-2 : goal.invariant-loop-2
invariant-loop-2 l = record {
  count : length l.verdicts.items ≡ l.counter;
  each : (k : ℕ) (d : Option Verdict) → k < length l.verdicts.items → IfSome (slice_index_or l.verdicts.items k d) (IsRight l.fn.terms.goods (bidders_of l.fn.terms.goods l.fn.valuations (k + 1)));
}

abbrev pub invariant-loop-part : goal.invariant-loop-part
invariant-loop-part l = record {
  left : AllByRecursion (λ part. AllByRecursion (IsPieceOf l.fn.terms (bidders_of l.fn.terms.goods l.fn.valuations)) part.items) l.parts.items;
  placed : ArePlaced l.fn.terms (bidders_of l.fn.terms.goods l.fn.valuations) l.placed;
}

abbrev pub decreases-loop-part : goal.decreases-loop-part
decreases-loop-part l = goal.left-loop-part l
