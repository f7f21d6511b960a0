-- What a report that is taken leaves as it was, and where it may lead.
use Rattle.std.specs.Prelude.{◌≡◌, ◌≤◌, ℕ}
use Rattle.lot_base.specs.Demands.{IsDemand}
use Rattle.demand_set.specs.declared.reports.Report.{Report}
use Rattle.clock.specs.Reports.{ClockHistory, with_report, demand_in}
use Rattle.clock.specs.Standing.{steps_of, prices_after}
use Rattle.clock.specs.Judging.{IsLegal}

-- the clock makes no fewer steps, its prices up to now and the demands of all rounds before the present one stay, and a legal history
-- stays legal
pub record Grows (c : ClockHistory) (r : Report) : Type 0 where
  pub steps : steps_of c ≤ steps_of (with_report c r)
  pub prices : (n : ℕ) → n ≤ steps_of c → prices_after (with_report c r) n ≡ prices_after c n
  pub demands : (round bidder : ℕ) → round ≤ steps_of c → demand_in (with_report c r).reports round bidder ≡ demand_in c.reports round bidder
  pub legal : IsLegal c → IsDemand c.terms.goods r.demand → IsLegal (with_report c r)
