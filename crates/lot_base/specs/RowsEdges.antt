-- Worked examples at the edges of the definitions: digits after the last good, a price of 0, no bidders, worthless bundles and
-- bundles that are worth less than nothing.
use Rattle.std.specs.Prelude.{◌≡◌, ℕ, List, [], ◌∷◌, ℤ, pos, ◌-ℤ◌, refl}
use Rattle.lot_base.specs.Goods.{quantity_in, raised, lowered, size_of, cost, at, one_less, box_size}
use Rattle.lot_base.specs.Box.{box, index_of, bundle_at}
use Rattle.lot_base.specs.Demands.{least, greatest}
use Rattle.lot_base.specs.Economy.{indirect_utility, demand, lyapunov}
use Rattle.lot_base.specs.RowsTables.{one, two, marginals}

-- Digits of a set after the last good mean nothing.
digits_behind :
    (quantity_in (two 1 2) 4 ≡ 0) × (quantity_in (two 1 2) 7 ≡ 3) × (raised (two 5 5) 5 ≡ two 6 5) × (size_of 2 4 ≡ 0) × (size_of 2 7 ≡ 2)
digits_behind = (refl, refl, refl, refl, refl)

-- A price of 0 and a quantity of 0 stay where one is taken away; a unit at a price of 0 costs nothing.
nothing_less : (lowered (two 0 3) 3 ≡ two 0 2) × (one_less (two 0 3) 0 ≡ two 0 3) × (cost (two 0 7) (two 9 1) ≡ 7)
nothing_less = (refl, refl, refl)

-- Supply 1 and 2: the bundles in order, and the place of (1,1) among them.
places :
    (box (two 1 2) ≡ two 0 0 ∷ two 0 1 ∷ two 0 2 ∷ two 1 0 ∷ two 1 1 ∷ two 1 2 ∷ []) × (box_size (two 1 2) ≡ 6)
    × (index_of (two 1 2) (two 1 1) ≡ 4) × (bundle_at (two 1 2) 4 ≡ two 1 1) × (index_of (two 1 2) (two 0 0) ≡ 0)
places = (refl, refl, refl, refl, refl)

-- Bundles (0,3), (1,1) and (2,0): on good 0, on good 1, on both. Of one bundle the least is the greatest.
least_and_greatest :
    (least (two 0 3 ∷ two 1 1 ∷ two 2 0 ∷ []) 1 ≡ 0) × (least (two 0 3 ∷ two 1 1 ∷ two 2 0 ∷ []) 2 ≡ 0) × (least (two 0 3 ∷ two 1 1 ∷ two 2 0 ∷ []) 3 ≡ 2)
    × (greatest (two 0 3 ∷ two 1 1 ∷ two 2 0 ∷ []) 1 ≡ 2) × (greatest (two 0 3 ∷ two 1 1 ∷ two 2 0 ∷ []) 2 ≡ 3)
    × (greatest (two 0 3 ∷ two 1 1 ∷ two 2 0 ∷ []) 3 ≡ 3) × (least (two 1 2 ∷ []) 3 ≡ 3) × (greatest (two 1 2 ∷ []) 3 ≡ 3)
least_and_greatest = (refl, refl, refl, refl, refl, refl, refl, refl)

-- A bidder to whom all bundles are worth nothing demands them all at a price of 0, and none but the empty one at a price of 1.
worthless :
    (demand (one 2) (marginals 0 0) (one 0) ≡ one 0 ∷ one 1 ∷ one 2 ∷ []) × (demand (one 2) (marginals 0 0) (one 1) ≡ one 0 ∷ [])
unfolding demand indirect_utility
worthless = (refl, refl)

-- A bidder to whom each unit is a burden demands nothing, and so gains 0.
burden : List ℕ → ℤ
burden x = pos 0 -ℤ pos (at x 0)

burdened : (demand (one 2) burden (one 0) ≡ one 0 ∷ []) × (indirect_utility (one 2) burden (one 0) ≡ pos 0)
unfolding demand indirect_utility burden
burdened = (refl, refl)

-- Without bidders the Lyapunov function is what the supply costs.
without_bidders : lyapunov (one 2) (λ j. marginals 10 4) [] (one 3) ≡ pos 6
unfolding lyapunov indirect_utility
without_bidders = refl
