use Rattle.std.proofs.Common.{drop, length, ◌≡◌}
use Rattle.clock.specs.Reports.{demands_in}
use Rattle.two_way.specs.Quantities.{amount_in, AreTables}
use Rattle.two_way.proofs.Adding.{IsAddedTo}
use Rattle.two_way.proofs.quantities.demanded.Given as goal

abbrev pub invariant-loop-step : goal.invariant-loop-step
invariant-loop-step l = record {
  places : length l.tables ≡ 13;
  tables : AreTables l.goods (λ j set. amount_in l.amount (demands_in (drop l.from l.reports.reports) l.round j) set) l.step l.clock l.tables;
  added : IsAddedTo l.goods (λ j set. amount_in l.amount (demands_in (drop l.from l.reports.reports) l.round j) set) l.bidders l.clock l.step l.excess.0;
}
