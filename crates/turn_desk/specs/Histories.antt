-- Histories: lists of entries that grow at their end alone, and the places of entries in them.
-- A place is an index from 0. Two entries may be equal, their places never are.
-- Every history begins with the empty one and with itself. A range of numbers from a to b with b ≤ a has none.
use Rattle.std.specs.Prelude.{◌≡◌, ℕ, ◌+◌, ◌^◌, ◌<◌, List, [], ◌∷◌, ◌++◌, length, Bool, true, false, ◌==◌, ◌&&◌, leb, ltb}
use Rattle.std.specs.List.{AllByRecursion}
use mathlib.Core.Option.{some}
use lib.ListN.{get_elem?}

-- the number of the tests that pass, of one
abbrev pub one_if : Bool → ℕ
one_if true = 1
one_if false = 0

-- 1 for each number from a on and below b, and 0 for all others
abbrev pub between : ℕ → ℕ → ℕ → ℕ
between a b n = one_if (leb a n && ltb n b)

-- f of each element, added up
abbrev pub total : {A : Type 0} → (A → ℕ) → List A → ℕ
total f [] = 0
total f (x ∷ xs) = f x + total f xs

module _ {E : Type 0} where
  -- the history has this one as its front
  abbrev pub StartsWith : List E → List E → Type 0
  StartsWith history front = (more : List E) × (history ≡ front ++ more)

  -- the history has each of these as its front
  abbrev pub StartsWithAll : List E → List (List E) → Type 0
  StartsWithAll history fronts = AllByRecursion (StartsWith history) fronts

  -- fewer than 4,294,967,296 entries were appended
  abbrev pub GoesOn : List E → List E → Type 0
  GoesOn before after = (more : List E) × (after ≡ before ++ more) × (length more < 2 ^ 32)

  -- the entries with their places, the first at k
  abbrev pub placed : ℕ → List E → List (ℕ × E)
  placed k [] = []
  placed k (e ∷ es) = (k, e) ∷ placed (k + 1) es

  -- each entry stands in the history at its place
  abbrev pub StandIn : List E → List (ℕ × E) → Type 0
  StandIn history own = AllByRecursion (λ (x : ℕ × E). get_elem? history x.0 ≡ some x.1) own

  -- how often k is a place of these entries
  abbrev pub times_at : ℕ → List (ℕ × E) → ℕ
  times_at k own = total (λ (x : ℕ × E). one_if (k == x.0)) own
