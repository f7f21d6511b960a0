-- Worked examples: what the bidders of three small markets demand, and the Lyapunov function. The numbers are worked by
-- hand from the textbook's definitions; beside each price stands what each bundle is worth beyond its cost, to one bidder
-- after another, in ascending order of the bundles.
use Rattle.std.specs.Prelude.{◌≡◌, ℕ, ◌==◌, if◌then◌else◌, List, [], ◌∷◌, ℤ, pos, refl}
use Rattle.lot_base.specs.Economy.{indirect_utility, demand, lyapunov}
use Rattle.lot_base.specs.RowsTables.{one, two, marginals, unit_demand, three_bidders, two_bidders}

-- One good in two units, and three bidders.

-- 0, 10, 14; 0, 8, 11; 0, 6, 7
two_units_at_0 :
    (indirect_utility (one 2) (marginals 10 4) (one 0) ≡ pos 14) × (demand (one 2) (marginals 10 4) (one 0) ≡ one 2 ∷ [])
    × (indirect_utility (one 2) (marginals 8 3) (one 0) ≡ pos 11) × (demand (one 2) (marginals 8 3) (one 0) ≡ one 2 ∷ [])
    × (indirect_utility (one 2) (marginals 6 1) (one 0) ≡ pos 7) × (demand (one 2) (marginals 6 1) (one 0) ≡ one 2 ∷ [])
    × (lyapunov (one 2) three_bidders (1 ∷ 2 ∷ 3 ∷ []) (one 0) ≡ pos 32)
unfolding indirect_utility demand lyapunov
two_units_at_0 = (refl, refl, refl, refl, refl, refl, refl)

-- 0, 7, 8; 0, 5, 5; 0, 3, 1
two_units_at_3 :
    (indirect_utility (one 2) (marginals 10 4) (one 3) ≡ pos 8) × (demand (one 2) (marginals 10 4) (one 3) ≡ one 2 ∷ [])
    × (indirect_utility (one 2) (marginals 8 3) (one 3) ≡ pos 5) × (demand (one 2) (marginals 8 3) (one 3) ≡ one 1 ∷ one 2 ∷ [])
    × (indirect_utility (one 2) (marginals 6 1) (one 3) ≡ pos 3) × (demand (one 2) (marginals 6 1) (one 3) ≡ one 1 ∷ [])
    × (lyapunov (one 2) three_bidders (1 ∷ 2 ∷ 3 ∷ []) (one 3) ≡ pos 22)
unfolding indirect_utility demand lyapunov
two_units_at_3 = (refl, refl, refl, refl, refl, refl, refl)

-- 0, 4, 2; 0, 2, -1; 0, 0, -5
two_units_at_6 :
    (indirect_utility (one 2) (marginals 10 4) (one 6) ≡ pos 4) × (demand (one 2) (marginals 10 4) (one 6) ≡ one 1 ∷ [])
    × (indirect_utility (one 2) (marginals 8 3) (one 6) ≡ pos 2) × (demand (one 2) (marginals 8 3) (one 6) ≡ one 1 ∷ [])
    × (indirect_utility (one 2) (marginals 6 1) (one 6) ≡ pos 0) × (demand (one 2) (marginals 6 1) (one 6) ≡ one 0 ∷ one 1 ∷ [])
    × (lyapunov (one 2) three_bidders (1 ∷ 2 ∷ 3 ∷ []) (one 6) ≡ pos 18)
unfolding indirect_utility demand lyapunov
two_units_at_6 = (refl, refl, refl, refl, refl, refl, refl)

-- Two goods of one unit, and two bidders.

-- 0, 4, 5, 5; 0, 0, 3, 3
one_unit_each_at_0_0 :
    (indirect_utility (two 1 1) (unit_demand 5 4) (two 0 0) ≡ pos 5) × (demand (two 1 1) (unit_demand 5 4) (two 0 0) ≡ two 1 0 ∷ two 1 1 ∷ [])
    × (indirect_utility (two 1 1) (unit_demand 3 0) (two 0 0) ≡ pos 3) × (demand (two 1 1) (unit_demand 3 0) (two 0 0) ≡ two 1 0 ∷ two 1 1 ∷ [])
    × (lyapunov (two 1 1) two_bidders (1 ∷ 2 ∷ []) (two 0 0) ≡ pos 8)
unfolding indirect_utility demand lyapunov
one_unit_each_at_0_0 = (refl, refl, refl, refl, refl)

-- 0, 4, 4, 4; 0, 0, 2, 2
one_unit_each_at_1_0 :
    (indirect_utility (two 1 1) (unit_demand 5 4) (two 1 0) ≡ pos 4) × (demand (two 1 1) (unit_demand 5 4) (two 1 0) ≡ two 0 1 ∷ two 1 0 ∷ two 1 1 ∷ [])
    × (indirect_utility (two 1 1) (unit_demand 3 0) (two 1 0) ≡ pos 2) × (demand (two 1 1) (unit_demand 3 0) (two 1 0) ≡ two 1 0 ∷ two 1 1 ∷ [])
    × (lyapunov (two 1 1) two_bidders (1 ∷ 2 ∷ []) (two 1 0) ≡ pos 7)
unfolding indirect_utility demand lyapunov
one_unit_each_at_1_0 = (refl, refl, refl, refl, refl)

-- 0, 2, 1, -1; 0, -2, -1, -3
one_unit_each_at_4_2 :
    (indirect_utility (two 1 1) (unit_demand 5 4) (two 4 2) ≡ pos 2) × (demand (two 1 1) (unit_demand 5 4) (two 4 2) ≡ two 0 1 ∷ [])
    × (indirect_utility (two 1 1) (unit_demand 3 0) (two 4 2) ≡ pos 0) × (demand (two 1 1) (unit_demand 3 0) (two 4 2) ≡ two 0 0 ∷ [])
    × (lyapunov (two 1 1) two_bidders (1 ∷ 2 ∷ []) (two 4 2) ≡ pos 8)
unfolding indirect_utility demand lyapunov
one_unit_each_at_4_2 = (refl, refl, refl, refl, refl)

-- One unit of good 0 and two of good 1, which nobody has a use for.
abbrev rivals : ℕ → List ℕ → ℤ
rivals j = if j == 1 then unit_demand 3 0 else unit_demand 2 0

-- 0, 0, 0, 3, 3, 3; 0, 0, 0, 2, 2, 2
unwanted_good_at_0_0 :
    (indirect_utility (two 1 2) (unit_demand 3 0) (two 0 0) ≡ pos 3) × (demand (two 1 2) (unit_demand 3 0) (two 0 0) ≡ two 1 0 ∷ two 1 1 ∷ two 1 2 ∷ [])
    × (indirect_utility (two 1 2) (unit_demand 2 0) (two 0 0) ≡ pos 2) × (demand (two 1 2) (unit_demand 2 0) (two 0 0) ≡ two 1 0 ∷ two 1 1 ∷ two 1 2 ∷ [])
    × (lyapunov (two 1 2) rivals (1 ∷ 2 ∷ []) (two 0 0) ≡ pos 5)
unfolding indirect_utility demand lyapunov
unwanted_good_at_0_0 = (refl, refl, refl, refl, refl)

-- 0, 0, 0, 1, 1, 1; 0, 0, 0, 0, 0, 0
unwanted_good_at_2_0 :
    (indirect_utility (two 1 2) (unit_demand 3 0) (two 2 0) ≡ pos 1) × (demand (two 1 2) (unit_demand 3 0) (two 2 0) ≡ two 1 0 ∷ two 1 1 ∷ two 1 2 ∷ [])
    × (indirect_utility (two 1 2) (unit_demand 2 0) (two 2 0) ≡ pos 0)
    × (demand (two 1 2) (unit_demand 2 0) (two 2 0) ≡ two 0 0 ∷ two 0 1 ∷ two 0 2 ∷ two 1 0 ∷ two 1 1 ∷ two 1 2 ∷ [])
    × (lyapunov (two 1 2) rivals (1 ∷ 2 ∷ []) (two 2 0) ≡ pos 3)
unfolding indirect_utility demand lyapunov
unwanted_good_at_2_0 = (refl, refl, refl, refl, refl)

-- 0, -1, -2, 1, 0, -1; 0, -1, -2, 0, -1, -2
unwanted_good_at_2_1 :
    (indirect_utility (two 1 2) (unit_demand 3 0) (two 2 1) ≡ pos 1) × (demand (two 1 2) (unit_demand 3 0) (two 2 1) ≡ two 1 0 ∷ [])
    × (indirect_utility (two 1 2) (unit_demand 2 0) (two 2 1) ≡ pos 0) × (demand (two 1 2) (unit_demand 2 0) (two 2 1) ≡ two 0 0 ∷ two 1 0 ∷ [])
    × (lyapunov (two 1 2) rivals (1 ∷ 2 ∷ []) (two 2 1) ≡ pos 5)
unfolding indirect_utility demand lyapunov
unwanted_good_at_2_1 = (refl, refl, refl, refl, refl)
