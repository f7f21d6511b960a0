use Rattle.std.proofs.Common.{◌≡◌, true}
use Rattle.trial.specs.Bidding.{bidders_of}
use Rattle.trial.specs.Rounds.{AreColumns}
use Rattle.two_way.specs.Standing.{prices_of}
use Rattle.two_way.specs.FloatHistories.{is_running}
use Rattle.two_way.specs.Bidding.{AreBidders, HaveSaid}
use Rattle.two_way.proofs.Telling.{IsOn}
use Rattle.two_way.proofs.floating.run_clock.Given as goal

abbrev pub invariant-loop-turn : goal.invariant-loop-turn
invariant-loop-turn l = record {
  on : IsOn l.fn.terms l.fn.start l.fn.number (bidders_of l.fn.terms.goods l.fn.valuations) l.turn l.clock;
  bidders : AreBidders l.fn.terms (bidders_of l.fn.terms.goods l.fn.valuations) (prices_of l.clock) l.bidders.items;
  said : is_running l.clock ≡ true → HaveSaid (bidders_of l.fn.terms.goods l.fn.valuations) l.clock l.bidders.items;
  columns : AreColumns l.fn.terms.goods l.columns.items;
}
