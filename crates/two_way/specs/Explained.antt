-- Valuations that explain what the members of a two-way clock report.
use Rattle.std.specs.Prelude.{◌≡◌, ◌≤◌, ℕ, ◌+◌, List, ℤ, true, is_none}
use Rattle.std.specs.List.{AllByRecursion}
use Rattle.lot_base.specs.Economy.{demand, lyapunov, without, AllStrongSubstitutes, AllValuations, AllBelowCeiling, IsMinimiser}
use Rattle.lot_base.specs.declared.phases.Phase.TheVariants.{Ended, Halted}
use Rattle.demand_set.specs.declared.reports.Report.{Report}
use Rattle.clock.specs.declared.clocks.Look.{Look}
use Rattle.two_way.specs.Histories.{TwoWayHistory, members_in}
use Rattle.two_way.specs.Standing.{prices_after, steps_of}
use Rattle.two_way.specs.Floated.{choice_of}

-- the Lyapunov function of the members of a clock, and that of all of them but one bidder
abbrev pub lyapunov_of : (ℕ → List ℕ → ℤ) → TwoWayHistory → List ℕ → ℤ
lyapunov_of u h prices = lyapunov h.terms.goods u (members_in h) prices

abbrev pub lyapunov_without : ℕ → (ℕ → List ℕ → ℤ) → TwoWayHistory → List ℕ → ℤ
lyapunov_without bidder u h prices = lyapunov h.terms.goods u (without bidder (members_in h)) prices

-- The report is true: in the round after so many steps, of those that were made, it is the demand set at the prices then. Nothing is
-- asked of a report of another round.
abbrev pub IsTrueReport : (ℕ → List ℕ → ℤ) → TwoWayHistory → Report → Type 0
IsTrueReport u h r = (steps : ℕ) → steps ≤ steps_of h → r.round ≡ steps + 1 → r.demand ≡ demand h.terms.goods (u r.bidder) (prices_after h steps)

-- u j is a valuation of bidder j with strong substitutes, for each member j, and each report is true
pub record Explains (u : ℕ → List ℕ → ℤ) (h : TwoWayHistory) : Type 0 where
  pub valuations : AllValuations h.terms.goods u (members_in h)
  pub substitutes : AllStrongSubstitutes h.terms.goods u (members_in h)
  pub reports : AllByRecursion (IsTrueReport u h) h.reports

-- What is shown of a clock whose reports are explained.
pub record ShowsMinimum (u : ℕ → List ℕ → ℤ) (h : TwoWayHistory) (look : Look) : Type 0 where
  -- where it has ended, the prices minimise the Lyapunov function of its members over all prices from the opening on; they need not be the
  -- least that do
  pub minimum : look.phase ≡ Ended → IsMinimiser h.terms.opening (lyapunov_of u h) look.prices
  -- and some choice of what the members demand clears
  pub choice : look.phase ≡ Ended → is_none (choice_of h) ≡ true → ⊥
  -- where all values are below the ceiling it is never halted
  pub unhalted : (good : ℕ) → AllBelowCeiling h.terms.goods u h.terms.ceiling (members_in h) → look.phase ≡ Halted good → ⊥
