use Rattle.std.specs.List.{AllByRecursion}
use Rattle.trial.specs.Bidding.{bidders_of}
use Rattle.trial.specs.Workers.{IsPieceOf, ArePlaced}
use Rattle.trial.proofs.workers.place_part.Given as goal

abbrev pub invariant-loop-piece : goal.invariant-loop-piece
invariant-loop-piece l = record {
  left : AllByRecursion (IsPieceOf l.fn.terms (bidders_of l.fn.terms.goods l.fn.valuations)) l.part.items;
  placed : ArePlaced l.fn.terms (bidders_of l.fn.terms.goods l.fn.valuations) l.placed;
}

abbrev pub decreases-loop-piece : goal.decreases-loop-piece
decreases-loop-piece l = goal.left-loop-piece l
