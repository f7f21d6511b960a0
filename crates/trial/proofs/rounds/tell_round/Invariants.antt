use Rattle.std.proofs.Common.{◌≡◌, ◌≤◌}
use Rattle.clock.specs.Standing.{steps_of}
use Rattle.trial.specs.Bidding.{bidders_of}
use Rattle.trial.specs.Rounds.{told_up_to}
use Rattle.trial.proofs.rounds.tell_round.Given as goal

abbrev pub invariant-loop-place : goal.invariant-loop-place
invariant-loop-place l = record {
  told : l.clock.history ≡ told_up_to (bidders_of l.fn.terms.goods l.fn.valuations) l.place l.fn.clock.history;
  grown : steps_of l.fn.clock.history ≤ steps_of l.clock.history;
}
