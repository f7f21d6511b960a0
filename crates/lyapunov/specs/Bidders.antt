-- Bidders as a list of numbers, and what a choice gives to each of them.
use Rattle.std.specs.Prelude.{◌≡◌, ℕ, if◌then◌else◌, ◌==◌, List, [], ◌∷◌, count_by}

-- bidder i is one of them, and stands in the list once
abbrev pub IsOneOf : ℕ → List ℕ → Type 0
IsOneOf i js = count_by (λ j. j == i) js ≡ 1

-- no bidder stands in the list twice
abbrev pub AllDifferent : List ℕ → Type 0
AllDifferent [] = Unit {0}
AllDifferent (j ∷ js) = (count_by (λ k. k == j) js ≡ 0) × AllDifferent js

-- the bundle that a choice of the bidders gives to one of them: that at the bidder's place
abbrev pub bundle_of : List ℕ → List (List ℕ) → ℕ → List ℕ
bundle_of [] choice i = []
bundle_of (j ∷ js) [] i = []
bundle_of (j ∷ js) (x ∷ choice) i = if j == i then x else bundle_of js choice i
