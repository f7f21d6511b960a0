-- Where a round leads, by the whole history: the round stands and so does the account, or the next round begins and the
-- step is added to the account.
use Rattle.std.specs.Prelude.{List, ◌≡◌, ◌⊎◌, ◌≤◌, ◌+◌, ℕ, true, false, length, ◌-ℤ◌}
use Rattle.lot_base.specs.Economy.{without}
use Rattle.lot_base.specs.Steps.{excess}
use Rattle.lot_base.specs.declared.phases.Phase.TheVariants.{Running}
use Rattle.credit_book.specs.Account.{Sums, sum_without}
use Rattle.lot_base.specs.declared.phases.Phase.{Phase}
use Rattle.clock.specs.Reports.{ClockHistory, members_of, demands_in}
use Rattle.clock.specs.Standing.{leads_on, prices_after, phase_after, step_set_after}

-- how a clock stands, and where the reports of its last or current round begin
pub record StandingAt : Type 0 where
  pub current : ℕ
  pub steps : ℕ
  pub phase : Phase
  pub prices : List ℕ

pub record Stays (c : ClockHistory) (current steps : ℕ) (before after : Sums) (s : StandingAt) : Type 0 where
  pub stops : leads_on c steps ≡ false
  pub current_is : s.current ≡ current
  pub steps_are : s.steps ≡ steps
  pub phase_is : s.phase ≡ phase_after c steps
  pub prices_are : s.prices ≡ prices_after c steps
  pub account_is : after ≡ before

pub record Steps (c : ClockHistory) (steps : ℕ) (before after : Sums) (s : StandingAt) : Type 0 where
  pub goes : leads_on c steps ≡ true
  pub current_is : s.current ≡ length c.reports
  pub steps_are : s.steps ≡ steps + 1
  pub few : steps + 1 ≤ 60000
  pub phase_is : s.phase ≡ Running
  pub prices_are : s.prices ≡ prices_after c (steps + 1)
  pub account_steps : after.steps ≡ before.steps + 1
  pub account_sums : (bidder : ℕ) → sum_without after bidder ≡ sum_without before bidder -ℤ excess c.terms.goods (demands_in c.reports (steps + 1)) (without bidder (members_of c)) (step_set_after c steps)

abbrev pub IsNext : ClockHistory → ℕ → ℕ → Sums → Sums → StandingAt → Type 0
IsNext c current steps before after s = Stays c current steps before after s ⊎ Steps c steps before after s
