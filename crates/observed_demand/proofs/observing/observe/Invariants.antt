use Rattle.std.proofs.Common.{◌≡◌, ◌≤◌, ◌*◌, length, take}
use Rattle.clock.specs.Reports.{histories}
use Rattle.observed_demand.specs.Reported.{observations_of, places_of}
use Rattle.observed_demand.proofs.observing.observe.Given as goal

abbrev pub invariant-loop-clock : goal.invariant-loop-clock
invariant-loop-clock l = record {
  supply : l.observed.rationale.supply ≡ l.terms.goods;
  observations : l.observed.rationale.observations ≡ observations_of l.bidder (histories (take l.clock-index l.clocks));
  places : l.observed.places.items ≡ places_of l.bidder (histories (take l.clock-index l.clocks));
  few : length l.observed.rationale.observations ≤ l.clock-index * 60001;
}
