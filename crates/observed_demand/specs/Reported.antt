-- What a bidder reported to the clocks of an auction, each report with the prices at which it was made.
use Rattle.std.specs.Prelude.{ℕ, ◌-◌, Bool, ◌==◌, List, map}
use Rattle.std.specs.List.{filter, flat_map}
use Rattle.demand_set.specs.declared.reports.Report.{Report}
use Rattle.clock.specs.Reports.{ClockHistory}
use Rattle.clock.specs.Standing.{prices_after}
use Rattle.rationale.specs.Observations.{Observation}
use Rattle.observed_demand.specs.declared.observing.Place.{Place}

abbrev pub is_by : ℕ → Report → Bool
is_by bidder r = r.bidder == bidder

-- the reports of the bidder, in the order of the history
abbrev pub reports_by : ℕ → ClockHistory → List Report
reports_by bidder c = filter (is_by bidder) c.reports

-- the prices of the report's round, and what it demands at them
abbrev pub observation_in : ClockHistory → Report → Observation
observation_in c r = record { prices = prices_after c (r.round - 1); bundles = r.demand }

-- the clock and the round of the report
abbrev pub place_in : ClockHistory → Report → Place
place_in c r = record { clock = c.number; round = r.round }

-- the observations of the bidder in one clock, and the place of each
abbrev pub observations_in : ℕ → ClockHistory → List Observation
observations_in bidder c = map (observation_in c) (reports_by bidder c)

abbrev pub places_in : ℕ → ClockHistory → List Place
places_in bidder c = map (place_in c) (reports_by bidder c)

-- the observations of the bidder clock by clock, and the place of each
abbrev pub observations_of : ℕ → List ClockHistory → List Observation
observations_of bidder clocks = flat_map (observations_in bidder) clocks

abbrev pub places_of : ℕ → List ClockHistory → List Place
places_of bidder clocks = flat_map (places_in bidder) clocks
