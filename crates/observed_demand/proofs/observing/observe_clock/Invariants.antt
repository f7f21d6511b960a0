use Rattle.std.proofs.Common.{◌≡◌, ◌≤◌, ◌-◌, ◌++◌, map, take}
use Rattle.std.specs.List.{filter}
use Rattle.clock.specs.Standing.{last_round, prices_after}
use Rattle.observed_demand.specs.Reported.{is_by, observation_in, place_in}
use Rattle.observed_demand.proofs.Fronts.{front}
use Rattle.observed_demand.proofs.observing.observe_clock.Given as goal

abbrev pub invariant-loop-before : goal.invariant-loop-before
invariant-loop-before l = record {
  supply : l.all.rationale.supply ≡ l.fn.observed.rationale.supply;
  observations : l.all.rationale.observations ≡ l.fn.observed.rationale.observations ++ map (observation_in l.clock.history) (filter (is_by l.bidder) (take l.before l.clock.history.reports));
  places : l.all.places.items ≡ l.fn.observed.places.items ++ map (place_in l.clock.history) (filter (is_by l.bidder) (take l.before l.clock.history.reports));
  from_one : 1 ≤ l.round;
  to_last : l.round ≤ last_round (front l.clock.history l.before);
  prices_are : l.prices ≡ prices_after l.clock.history (l.round - 1);
}
