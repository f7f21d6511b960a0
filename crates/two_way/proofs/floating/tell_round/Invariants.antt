use Rattle.std.proofs.Common.{◌≡◌, ◌≤◌}
use Rattle.trial.specs.Bidding.{bidders_of}
use Rattle.two_way.specs.Standing.{steps_of}
use Rattle.two_way.specs.FloatHistories.{round_told_to}
use Rattle.two_way.proofs.floating.tell_round.Given as goal

abbrev pub invariant-loop-place : goal.invariant-loop-place
invariant-loop-place l = record {
  told : l.clock ≡ round_told_to (bidders_of l.fn.terms.goods l.fn.valuations) l.place l.fn.clock;
  grown : steps_of l.fn.clock ≤ steps_of l.clock;
}
