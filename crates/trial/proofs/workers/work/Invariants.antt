use Rattle.std.specs.List.{AllByRecursion}
use Rattle.trial.specs.Bidding.{bidders_of}
use Rattle.trial.specs.Rounds.{AreColumns}
use Rattle.trial.specs.Workers.{IsPieceOf}
use Rattle.trial.proofs.workers.work.Given as goal

abbrev pub invariant-loop : goal.invariant-loop
invariant-loop l = record {
  pieces : AllByRecursion (IsPieceOf l.fn.terms (bidders_of l.fn.terms.goods l.fn.valuations)) l.pieces.items;
  columns : AreColumns l.fn.terms.goods l.columns.items;
}
