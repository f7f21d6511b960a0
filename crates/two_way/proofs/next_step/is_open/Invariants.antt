use Rattle.std.proofs.Common.{◌≡◌, ◌≢◌, ◌<◌, ◌≤◌, ◌+◌, ℕ, false, is_none, drop}
use Rattle.clock.specs.Reports.{demand_in}
use Rattle.two_way.proofs.next_step.is_open.Given as goal

abbrev pub invariant-loop-step : goal.invariant-loop-step
invariant-loop-step l = (j : ℕ) → l.bidders < j + l.step → j ≤ l.bidders → j ≢ l.clock → is_none (demand_in (drop l.from l.reports.reports) l.round j) ≡ false
