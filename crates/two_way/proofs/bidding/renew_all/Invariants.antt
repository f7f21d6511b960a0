use Rattle.std.proofs.Common.{[]}
use Rattle.std.specs.Prelude.{slice_index_or}
use Rattle.two_way.specs.Bidding.{IsRenewed}
use Rattle.two_way.proofs.Moving.{AreMovedTo}
use Rattle.two_way.proofs.bidding.renew_all.Given as goal

abbrev pub invariant-loop-place : goal.invariant-loop-place
invariant-loop-place l = AreMovedTo (λ k. IsRenewed (slice_index_or l.valuations k []) l.prices) l.place l.fn.bidders.items l.bidders.items
