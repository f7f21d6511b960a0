-- Marginal values that fall: of each good no unit is worth more than one before it.
use Rattle.std.specs.Prelude.{◌≤◌, ℕ, List, [], ◌∷◌, take, drop}
use Rattle.std.specs.List.{AllByRecursion}

-- no number is greater than one before it
abbrev pub IsDescending : List ℕ → Type 0
IsDescending [] = Unit {0}
IsDescending (v ∷ vs) = AllByRecursion (λ w. w ≤ v) vs × IsDescending vs

-- the entries of each good, as many as its supply, fall
abbrev pub AreDescending : List ℕ → List ℕ → Type 0
AreDescending [] entries = Unit {0}
AreDescending (s ∷ supply) entries = IsDescending (take s entries) × AreDescending supply (drop s entries)
