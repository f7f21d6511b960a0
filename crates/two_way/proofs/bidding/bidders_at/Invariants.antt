use Rattle.trial.specs.Bidding.{bidders_of}
use Rattle.two_way.proofs.Moving.{AreMade}
use Rattle.two_way.proofs.bidding.bidders_at.Given as goal

abbrev pub invariant-loop-place : goal.invariant-loop-place
invariant-loop-place l = AreMade l.terms.goods (bidders_of l.terms.goods l.valuations) l.prices l.place l.bidders.items
