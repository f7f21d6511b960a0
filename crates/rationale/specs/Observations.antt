-- Observations of one bidder, and whether they come from a valuation. Sources: Samuelson, "A Note on the Pure Theory of
-- Consumer's Behaviour", Economica 5, 1938 (revealed preference); Brown and Calsamiglia, "The nonparametric approach to applied
-- welfare analysis", Economic Theory 31, 2007 (quasilinear utility); Rochet, "A necessary and sufficient condition for
-- rationalizability in a quasi-linear context", Journal of Mathematical Economics 16, 1987.
use Rattle.std.specs.Prelude.{◌≡◌, ℕ, List, ℤ}
use Rattle.std.specs.List.{AllByRecursion}
use Rattle.lot_base.specs.Economy.{IsValuation, demand}
use Rattle.lot_base.specs.Demands.{IsDemand}

-- prices, and what was demanded at them
pub record Observation : Type 0 where
  pub prices : List ℕ
  pub bundles : List (List ℕ)

-- each demand is one that a bidder may report at this supply
abbrev pub AreObservations : List ℕ → List Observation → Type 0
AreObservations supply os = AllByRecursion (λ o. IsDemand supply o.bundles) os

-- the demand sets of the valuation at the prices are the demands
abbrev pub Explains : List ℕ → (List ℕ → ℤ) → List Observation → Type 0
Explains supply u os = AllByRecursion (λ o. demand supply u o.prices ≡ o.bundles) os

-- some valuation explains them
abbrev pub IsRational : List ℕ → List Observation → Type 0
IsRational supply os = (u : List ℕ → ℤ) × IsValuation supply u × Explains supply u os

-- all observations of one bidder, in the order in which they were added, and the supply that the demands are of
pub record RationaleOf : Type 0 where
  pub supply : List ℕ
  pub observations : List Observation
