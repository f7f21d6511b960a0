use Rattle.trial.specs.Bidding.{bidders_of}
use Rattle.trial.specs.Rounds.{AreColumns}
use Rattle.two_way.proofs.Bidders.{AreInOrder}
use Rattle.two_way.proofs.floating.run_clocks.Given as goal

abbrev pub invariant-loop-number : goal.invariant-loop-number
invariant-loop-number l = record {
  order : AreInOrder l.fn.terms (bidders_of l.fn.terms.goods l.fn.valuations) l.fn.start l.number l.clocks.items;
  columns : AreColumns l.fn.terms.goods l.columns.items;
}
