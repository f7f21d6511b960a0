-- Worked examples: the step set of a few rounds, with its tie rules. A set of goods is written as a number: 3 is goods 0 and 1.
use Rattle.std.specs.Prelude.{◌≡◌, ℕ, ◌==◌, if◌then◌else◌, List, [], ◌∷◌, pos, negsuc, refl}
use Rattle.lot_base.specs.Steps.{excess, step_set}

abbrev three : ℕ → ℕ → ℕ → List ℕ
three a b c = a ∷ b ∷ c ∷ []

abbrev four : ℕ → ℕ → ℕ → ℕ → List ℕ
four a b c d = a ∷ b ∷ c ∷ d ∷ []

-- Four bidders want good 1, or goods 0 and 2. At the least each wants one unit of goods 0 and 1 together, and of goods 1 and
-- 2, so the excess is 4 - 2 on both sets; on all goods it is 4 - 3, and on one good -1. Of the two the smaller number is taken.
abbrev middle_or_ends : ℕ → List (List ℕ)
middle_or_ends j = three 0 1 0 ∷ three 1 0 1 ∷ []

smallest_number :
    (excess (three 1 1 1) middle_or_ends (1 ∷ 2 ∷ 3 ∷ 4 ∷ []) 3 ≡ pos 2) × (excess (three 1 1 1) middle_or_ends (1 ∷ 2 ∷ 3 ∷ 4 ∷ []) 6 ≡ pos 2)
    × (excess (three 1 1 1) middle_or_ends (1 ∷ 2 ∷ 3 ∷ 4 ∷ []) 7 ≡ pos 1) × (excess (three 1 1 1) middle_or_ends (1 ∷ 2 ∷ 3 ∷ 4 ∷ []) 2 ≡ negsuc 0)
    × (step_set (three 1 1 1) middle_or_ends (1 ∷ 2 ∷ 3 ∷ 4 ∷ []) ≡ 3)
unfolding step_set
smallest_number = (refl, refl, refl, refl, refl)

-- Supply 1, 1, 2, 2. Three bidders want two units of good 2, or one of goods 0 and 1 and two of good 3. The excess is 6 - 4 on
-- goods 0, 1 and 2, which is 7, and on goods 2 and 3, which is 12: the one with fewest goods is taken, though its number is greater.
abbrev one_or_three : ℕ → List (List ℕ)
one_or_three j = four 0 0 2 0 ∷ four 1 1 0 2 ∷ []

fewest_goods :
    (excess (four 1 1 2 2) one_or_three (1 ∷ 2 ∷ 3 ∷ []) 7 ≡ pos 2) × (excess (four 1 1 2 2) one_or_three (1 ∷ 2 ∷ 3 ∷ []) 12 ≡ pos 2)
    × (excess (four 1 1 2 2) one_or_three (1 ∷ 2 ∷ 3 ∷ []) 15 ≡ pos 0) × (step_set (four 1 1 2 2) one_or_three (1 ∷ 2 ∷ 3 ∷ []) ≡ 12)
unfolding step_set
fewest_goods = (refl, refl, refl, refl)

-- One bidder wants goods 0 and 2, and another good 0 alone: good 0 is wanted twice, and every larger set has no more excess.
abbrev good_0_twice : ℕ → List (List ℕ)
good_0_twice j = if j == 1 then three 1 0 1 ∷ [] else three 1 0 0 ∷ []

greatest_excess :
    (excess (three 1 1 1) good_0_twice (1 ∷ 2 ∷ []) 1 ≡ pos 1) × (excess (three 1 1 1) good_0_twice (1 ∷ 2 ∷ []) 5 ≡ pos 1)
    × (excess (three 1 1 1) good_0_twice (1 ∷ 2 ∷ []) 7 ≡ pos 0) × (step_set (three 1 1 1) good_0_twice (1 ∷ 2 ∷ []) ≡ 1)
unfolding step_set
greatest_excess = (refl, refl, refl, refl)

-- Two units, and each bidder wants one. Two bidders leave no excess, so no good is in the step set; a third does. Without a
-- bidder the step set is empty too.
abbrev one_unit : ℕ → List (List ℕ)
one_unit j = (1 ∷ []) ∷ []

no_step :
    (excess (2 ∷ []) one_unit (1 ∷ 2 ∷ []) 1 ≡ pos 0) × (step_set (2 ∷ []) one_unit (1 ∷ 2 ∷ []) ≡ 0)
    × (step_set (2 ∷ []) one_unit (1 ∷ 2 ∷ 3 ∷ []) ≡ 1) × (step_set (2 ∷ []) one_unit [] ≡ 0)
unfolding step_set
no_step = (refl, refl, refl, refl)
