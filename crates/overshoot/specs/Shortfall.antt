-- How far the most that the members demand of a set of goods is below the supply of it. A set of goods whose prices have all
-- risen above their opening has to be sold whole, so where it is short no choice clears.
use Rattle.std.specs.Prelude.{◌≡◌, ◌<◌, ◌≤◌, ◌≤ℤ◌, ℕ, ◌^◌, ◌%◌, ◌/◌, List, [], ◌∷◌, length, ℤ, pos, negsuc, ◌+ℤ◌, ◌-ℤ◌}
use Rattle.lot_base.specs.Goods.{quantity_in, size_of}
use Rattle.lot_base.specs.Demands.{greatest}
use Rattle.lot_base.specs.Economy.{total_units}
use Rattle.lyapunov.specs.Excesses.{entry}

-- each price of the set is above its opening
abbrev pub AllRisen : List ℕ → List ℕ → ℕ → Type 0
AllRisen [] ps set = Unit {0}
AllRisen (o ∷ opening) [] set = Unit {0}
AllRisen (o ∷ opening) (p ∷ ps) set = (set % 2 ≡ 1 → o < p) × AllRisen opening ps (set / 2)

-- the supply of the set, less the greatest quantities that the members demand of it
abbrev pub shortfall : List ℕ → (ℕ → List (List ℕ)) → List ℕ → ℕ → ℤ
shortfall supply demands members set = pos (quantity_in supply set) -ℤ pos (total_units (λ j. greatest (demands j) set) members)

-- an overshoot set: goods with prices above their opening, of which the members demand less than the supply
pub record IsOvershoot (supply opening p : List ℕ) (demands : ℕ → List (List ℕ)) (members : List ℕ) (set : ℕ) : Type 0 where
  pub is_set : set < 2 ^ length supply
  pub risen : AllRisen opening p set
  pub short : total_units (λ j. greatest (demands j) set) members < quantity_in supply set

-- among the sets of goods with prices above their opening, the one of greatest shortfall, then of fewest goods, then the smallest
-- as a number; and its shortfall
pub record IsGreatestShortfall (supply opening p : List ℕ) (demands : ℕ → List (List ℕ)) (members : List ℕ) (set short : ℕ) : Type 0 where
  pub is_set : set < 2 ^ length supply
  pub risen : AllRisen opening p set
  pub short_is : shortfall supply demands members set ≡ pos short
  pub greatest : (other : ℕ) → other < 2 ^ length supply → AllRisen opening p other → shortfall supply demands members other ≤ℤ pos short
  pub fewest : (other : ℕ) → other < 2 ^ length supply → AllRisen opening p other → shortfall supply demands members other ≡ pos short
      → size_of (length supply) set ≤ size_of (length supply) other
  pub smallest : (other : ℕ) → other < 2 ^ length supply → AllRisen opening p other → shortfall supply demands members other ≡ pos short
      → size_of (length supply) other ≡ size_of (length supply) set → set ≤ other

-- a table of integers has at each set how far the most that the members demand of it is above the supply
pub record AreMost (supply : List ℕ) (demands : ℕ → List (List ℕ)) (members : List ℕ) (table : List ℤ) : Type 0 where
  pub entries : (set : ℕ) → set < 2 ^ length supply →
      entry table set ≡ pos (total_units (λ j. greatest (demands j) set) members) -ℤ pos (quantity_in supply set)
  pub at_least : (set : ℕ) → negsuc 2046 ≤ℤ entry table set
  pub at_most : (set : ℕ) → entry table set ≤ℤ pos 24564

-- a table that is such of some members
pub record IsMost (supply : List ℕ) (table : List ℤ) : Type 0 where
  pub demands : ℕ → List (List ℕ)
  pub members : List ℕ
  pub are : AreMost supply demands members table

-- what a bidder demands at most of each set is added
pub record AddsMost (supply : List ℕ) (demand : List (List ℕ)) (old new : List ℤ) : Type 0 where
  pub entries : (set : ℕ) → set < 2 ^ length supply → entry new set ≡ entry old set +ℤ pos (greatest demand set)
  pub small : (set : ℕ) → greatest demand set ≤ 2047
  pub others : (set : ℕ) → 2 ^ length supply ≤ set → entry new set ≡ entry old set

-- by how much each set of risen goods is short, and less than any such number for the other sets
pub record AreShort (supply opening p : List ℕ) (most table : List ℤ) : Type 0 where
  pub risen : (set : ℕ) → set < 2 ^ length supply → AllRisen opening p set → entry table set ≡ pos 0 -ℤ entry most set
  pub others : (set : ℕ) → set < 2 ^ length supply → (AllRisen opening p set → ⊥) → entry table set ≡ negsuc 0
