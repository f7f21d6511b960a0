use Rattle.clock.specs.Standing.{prices_of}
use Rattle.trial.specs.Bidding.{bidders_of}
use Rattle.trial.specs.Rounds.{AreColumns, AreFollowed}
use Rattle.trial.proofs.Turning.{IsOn}
use Rattle.trial.proofs.rounds.run_clock.Given as goal

abbrev pub invariant-loop-turn : goal.invariant-loop-turn
invariant-loop-turn l = record {
  on : IsOn l.fn.terms l.fn.number (bidders_of l.fn.terms.goods l.fn.valuations) l.turn l.clock.history;
  columns : AreColumns l.fn.terms.goods l.columns.items;
  followed : AreFollowed l.fn.terms (bidders_of l.fn.terms.goods l.fn.valuations) l.clock.history.number (prices_of l.clock.history) l.followers.items;
}
