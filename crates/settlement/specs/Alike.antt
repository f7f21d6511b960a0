-- Histories of one clock that hold the same reports, in any order, and what they then have in common.
use Rattle.std.specs.Prelude.{◌≡◌, ◌↔◌, ℕ}
use Rattle.std.specs.List.{Contains}
use Rattle.demand_set.specs.declared.reports.Report.{Report}
use Rattle.clock.specs.Reports.{ClockHistory}
use Rattle.clock.specs.Standing.{steps_of, phase_of, prices_of, missing_of}
use Rattle.clock.specs.Judging.{IsLegal}
use Rattle.clock.specs.Accounts.{account_without}
use Rattle.settlement.specs.Clocks.{choice_of}

-- legal histories of one clock, and each report of the one is a report of the other
pub record HoldSame (c d : ClockHistory) : Type 0 where
  pub legal : IsLegal c × IsLegal d
  pub terms_are : c.terms ≡ d.terms
  pub number_is : c.number ≡ d.number
  pub reports_are : (r : Report) → Contains c.reports r ↔ Contains d.reports r

-- They stand alike: they have the same terms, steps, phase, prices and missing member, the same accounts and the same first choice.
pub record StandAlike (c d : ClockHistory) : Type 0 where
  pub same_terms : c.terms ≡ d.terms
  pub same_number : c.number ≡ d.number
  pub same_steps : steps_of c ≡ steps_of d
  pub same_phase : phase_of c ≡ phase_of d
  pub same_prices : prices_of c ≡ prices_of d
  pub same_missing : missing_of c ≡ missing_of d
  pub same_account : (bidder : ℕ) → account_without c bidder ≡ account_without d bidder
  pub same_choice : choice_of c ≡ choice_of d
