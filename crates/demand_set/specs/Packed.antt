-- How a demand is kept: the quantities of its bundles one after another, so many goods in each.
use Rattle.std.specs.Prelude.{ℕ, List}
use Rattle.demand_set.specs.Reading.{bundles_of, AreWhole}
use Rattle.demand_set.specs.Held.{IsSomeDemand}

pub record IsPacked (goods : ℕ) (quantities : List ℕ) : Type 0 where
  pub whole : AreWhole goods quantities
  pub demand : IsSomeDemand (bundles_of goods quantities)
