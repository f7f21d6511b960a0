-- What is decided of the observations of one bidder: a table of values that explains them, or a cycle of links that shows that
-- there is none.
use Rattle.std.specs.Prelude.{◌≡◌, ◌≤◌, ◌<◌, ◌⊎◌, ℕ, List, [], ◌∷◌, length, slice_index_or, ℤ, pos, ◌-ℤ◌}
use Rattle.std.specs.List.{AllByRecursion}
use Rattle.lot_base.specs.Goods.{box_size, zeros, AtMost}
use Rattle.lot_base.specs.Box.{index_of}
use Rattle.lot_base.specs.Economy.{IsValuation}
use Rattle.rationale.specs.Observations.{Observation, Explains}
use Rattle.rationale.specs.Links.{AreLeastWeights, IsNegativeCycle}
use Rattle.rationale.specs.declared.links.Link.{Link}
use Rattle.rationale.specs.declared.deciding.Decision.{Decision}
use Rattle.rationale.specs.declared.deciding.Decision.TheVariants.{Rational, Cycle}

-- the valuation that a list of values by index is
abbrev pub value_of : List ℕ → List ℤ → List ℕ → ℤ
value_of supply values y = slice_index_or values (index_of supply y) (pos 0)

-- The value of each bundle is its least weight less that of the empty bundle, and so the values are a valuation that explains
-- all observations.
pub record IsExplanation (supply : List ℕ) (os : List Observation) (values : List ℤ) : Type 0 where
  pub m : List ℕ → ℤ
  pub least : AreLeastWeights supply os m
  pub whole : length values ≡ box_size supply
  pub each : (y : List ℕ) → AtMost y supply → value_of supply values y ≡ m y -ℤ m (zeros supply)
  pub valuation : IsValuation supply (value_of supply values)
  pub explains : Explains supply (value_of supply values) os

-- a link comes before another one, by observation, then by the index of x, then by that of y
abbrev pub Precedes : List ℕ → Link → Link → Type 0
Precedes supply a b = (a.observation < b.observation) ⊎ ((a.observation ≡ b.observation) × ((index_of supply a.x < index_of supply b.x)
    ⊎ ((index_of supply a.x ≡ index_of supply b.x) × (index_of supply a.y < index_of supply b.y))))

-- no link comes before the first one
abbrev pub IsFromLeast : List ℕ → List Link → Type 0
IsFromLeast supply [] = Unit {0}
IsFromLeast supply (first ∷ links) = AllByRecursion (λ link. Precedes supply link first → ⊥) links

-- a negative cycle of no more links than the box has bundles, from its least link on
pub record IsContradiction (supply : List ℕ) (os : List Observation) (links : List Link) : Type 0 where
  pub negative : IsNegativeCycle supply os links
  pub few : length links ≤ box_size supply
  pub from_least : IsFromLeast supply links

abbrev pub IsDecision : List ℕ → List Observation → Decision → Type 0
IsDecision supply os (Rational values) = IsExplanation supply os values
IsDecision supply os (Cycle links) = IsContradiction supply os links
