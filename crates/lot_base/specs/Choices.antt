-- Clearing choices: one bundle of each demand, so that together they take no more than the supply, and all of it of each
-- good whose price is above its opening. With no demand the only choice is empty, and it clears where all prices are at
-- their opening. Demands and bundles stand in the order of the bidders.
use Rattle.std.specs.Prelude.{◌≡◌, ◌≤◌, ◌<◌, ℕ, ◌==◌, nat_le, Bool, true, false, ◌&&◌, ◌||◌, List, [], ◌∷◌, Option, Some, slice_get, map, flat_map, find}
use Rattle.std.specs.Cmp.Lexicographic.{slice_cmp}
use Rattle.std.specs.Ordering.{nat_cmp}
use Rattle.std.specs.declared.cmp.Ordering.TheVariants.{Greater}
use Rattle.lot_base.specs.Goods.{plus, zeros}
use Rattle.lot_base.specs.Box.{IsIn}

-- what the bundles are together
abbrev pub sum_of : List ℕ → List (List ℕ) → List ℕ
sum_of supply [] = zeros supply
sum_of supply (x ∷ xs) = plus x (sum_of supply xs)

-- the total is within the supply, and is all of it on each good with a price above its opening
abbrev pub Clears : List ℕ → List ℕ → List ℕ → List ℕ → Type 0
Clears [] [] [] [] = Unit {0}
Clears (o ∷ opening) (p ∷ ps) (t ∷ ts) (s ∷ supply) = (t ≤ s) × (o < p → t ≡ s) × Clears opening ps ts supply
Clears _ _ _ _ = ⊥

-- one bundle of each demand
abbrev pub IsChoice : List (List (List ℕ)) → List (List ℕ) → Type 0
IsChoice [] [] = Unit {0}
IsChoice (d ∷ ds) (x ∷ xs) = IsIn x d × IsChoice ds xs
IsChoice _ _ = ⊥

pub record IsClearingChoice (supply opening p : List ℕ) (demands : List (List (List ℕ))) (choice : List (List ℕ)) : Type 0 where
  pub chosen : IsChoice demands choice
  pub clears : Clears opening p (sum_of supply choice) supply

-- the choice has the bundles at these places of the demands
abbrev pub StandsAt : List (List (List ℕ)) → List ℕ → List (List ℕ) → Type 0
StandsAt [] [] [] = Unit {0}
StandsAt (d ∷ ds) (place ∷ places) (x ∷ xs) = (slice_get d place ≡ Some x) × StandsAt ds places xs
StandsAt _ _ _ = ⊥

-- the clearing choice whose places come first in lexicographic order, the first demand first
pub record IsFirstChoice (supply opening p : List ℕ) (demands : List (List (List ℕ))) (choice : List (List ℕ)) : Type 0 where
  pub places : List ℕ
  pub stands : StandsAt demands places choice
  pub clears : Clears opening p (sum_of supply choice) supply
  pub first : (others : List ℕ) (other : List (List ℕ)) → StandsAt demands others other → Clears opening p (sum_of supply other) supply →
      slice_cmp nat_cmp places others ≡ Greater → ⊥

-- The same as a function: all choices in this order, and the first that clears.
abbrev pub choices : List (List (List ℕ)) → List (List (List ℕ))
choices [] = [] ∷ []
choices (d ∷ ds) = flat_map (λ x. map (λ xs. x ∷ xs) (choices ds)) d

abbrev pub clears : List ℕ → List ℕ → List ℕ → List ℕ → Bool
clears [] [] [] [] = true
clears (o ∷ opening) (p ∷ ps) (t ∷ ts) (s ∷ supply) = (nat_le t s && (nat_le p o || t == s)) && clears opening ps ts supply
clears _ _ _ _ = false

abbrev pub first_choice : List ℕ → List ℕ → List ℕ → List (List (List ℕ)) → Option (List (List ℕ))
first_choice supply opening p demands = find (λ choice. clears opening p (sum_of supply choice) supply) (choices demands)
