-- Valuations that explain what the members of a clock report.
use Rattle.std.specs.Prelude.{◌≡◌, ◌≤◌, ℕ, ◌+◌, ◌-◌, List, ℤ}
use Rattle.std.specs.List.{AllByRecursion}
use Rattle.lot_base.specs.Economy.{demand, lyapunov, without, AllBelowCeiling, AllStrongSubstitutes, AllValuations, IsLeastMinimiser}
use Rattle.lot_base.specs.declared.phases.Phase.TheVariants.{Ended, Halted}
use Rattle.lyapunov.specs.Paths.{IsLeastNear}
use Rattle.demand_set.specs.declared.reports.Report.{Report}
use Rattle.clock.specs.declared.clocks.Look.{Look}
use Rattle.clock.specs.Reports.{ClockHistory, members_of}
use Rattle.clock.specs.Standing.{prices_after, steps_of}

-- the Lyapunov function of the members of a clock, and that of all of them but one bidder
abbrev pub lyapunov_of : (ℕ → List ℕ → ℤ) → ClockHistory → List ℕ → ℤ
lyapunov_of u c prices = lyapunov c.terms.goods u (members_of c) prices

abbrev pub lyapunov_without : ℕ → (ℕ → List ℕ → ℤ) → ClockHistory → List ℕ → ℤ
lyapunov_without bidder u c prices = lyapunov c.terms.goods u (without bidder (members_of c)) prices

-- The report is true: in the round after so many steps, of those that the clock has made, it is the demand set at the prices
-- then. Nothing is asked of a report of another round.
abbrev pub IsTrueReport : (ℕ → List ℕ → ℤ) → ClockHistory → Report → Type 0
IsTrueReport u c r = (steps : ℕ) → steps ≤ steps_of c → r.round ≡ steps + 1 → r.demand ≡ demand c.terms.goods (u r.bidder) (prices_after c steps)

-- u j is a valuation of bidder j with strong substitutes, for each member j, and each report is true
pub record Explains (u : ℕ → List ℕ → ℤ) (c : ClockHistory) : Type 0 where
  pub valuations : AllValuations c.terms.goods u (members_of c)
  pub substitutes : AllStrongSubstitutes c.terms.goods u (members_of c)
  pub reports : AllByRecursion (IsTrueReport u c) c.reports

-- What is shown of a clock is at least prices that minimise the Lyapunov function of its members.
pub record ShowsLeast (u : ℕ → List ℕ → ℤ) (c : ClockHistory) (look : Look) : Type 0 where
  -- at every moment it is so among the prices so many steps from the opening
  pub near : IsLeastNear c.terms.opening (look.round - 1) (lyapunov_of u c) look.prices
  -- and among all prices where the clock has ended
  pub ended : look.phase ≡ Ended → IsLeastMinimiser c.terms.opening (lyapunov_of u c) look.prices
  -- where all values are below the ceiling no clock is halted
  pub unhalted : (good : ℕ) → AllBelowCeiling c.terms.goods u c.terms.ceiling (members_of c) → look.phase ≡ Halted good → ⊥
