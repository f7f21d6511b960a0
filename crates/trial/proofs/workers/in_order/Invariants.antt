use Rattle.std.specs.List.{AllZip}
use Rattle.clock.specs.Reports.{histories}
use Rattle.settlement.specs.Found.{IsFoundOf}
use Rattle.trial.specs.Bidding.{bidders_of}
use Rattle.trial.specs.Workers.{AreTold}
use Rattle.trial.proofs.Sharing.{AreInOrder}
use Rattle.trial.proofs.workers.in_order.Given as goal

abbrev pub invariant-loop-number : goal.invariant-loop-number
invariant-loop-number l = record {
  told : AreTold l.fn.terms (bidders_of l.fn.terms.goods l.fn.valuations) l.told.items;
  order : AreInOrder l.fn.terms (bidders_of l.fn.terms.goods l.fn.valuations) l.number (histories l.clocks.items);
  rows : AllZip IsFoundOf (histories l.clocks.items) l.rows.items;
}
