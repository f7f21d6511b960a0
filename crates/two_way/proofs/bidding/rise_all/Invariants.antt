use Rattle.trial.specs.Rounds.{AreColumns}
use Rattle.two_way.specs.Bidding.{IsRisen}
use Rattle.two_way.proofs.Moving.{AreMovedTo}
use Rattle.two_way.proofs.bidding.rise_all.Given as goal

abbrev pub invariant-loop-place : goal.invariant-loop-place
invariant-loop-place l = record {
  columns : AreColumns l.goods l.columns.items;
  risen : AreMovedTo (λ k. IsRisen l.set.0) l.place l.fn.bidders.items l.bidders.items;
}
