-- Worked examples: the first choice that clears, of a few lists of demands.
use Rattle.std.specs.Prelude.{◌≡◌, [], ◌∷◌, Some, None, refl}
use Rattle.lot_base.specs.Choices.{first_choice}
use Rattle.lot_base.specs.RowsTables.{one, two}

-- One unit, and two bidders who each would as soon have it as not. At a price it has to be sold, and the first choice that
-- sells it gives it to the second bidder. At a price of 0, or at its opening price, it may stay unsold.
unit_between_two :
    (first_choice (one 1) (one 0) (one 4) ((one 0 ∷ one 1 ∷ []) ∷ (one 0 ∷ one 1 ∷ []) ∷ []) ≡ Some (one 0 ∷ one 1 ∷ []))
    × (first_choice (one 1) (one 0) (one 0) ((one 0 ∷ one 1 ∷ []) ∷ (one 0 ∷ one 1 ∷ []) ∷ []) ≡ Some (one 0 ∷ one 0 ∷ []))
    × (first_choice (one 1) (one 4) (one 4) ((one 0 ∷ one 1 ∷ []) ∷ (one 0 ∷ one 1 ∷ []) ∷ []) ≡ Some (one 0 ∷ one 0 ∷ []))
unit_between_two = (refl, refl, refl)

-- Two units, and two bidders who want both: no two bundles fit. Where each would as soon have any number, the first choice in the
-- order of the lists gives all to the second.
two_units_between_two :
    (first_choice (one 2) (one 0) (one 0) ((one 2 ∷ []) ∷ (one 2 ∷ []) ∷ []) ≡ None)
    × (first_choice (one 2) (one 0) (one 1) ((one 0 ∷ one 1 ∷ one 2 ∷ []) ∷ (one 0 ∷ one 1 ∷ one 2 ∷ []) ∷ []) ≡ Some (one 0 ∷ one 2 ∷ []))
two_units_between_two = (refl, refl)

-- Two goods. One bidder wants nothing, and the other at most one unit: at prices of 2 and 2 no choice sells both goods, and one does
-- where only good 1 has a price.
goods_apart :
    (first_choice (two 1 1) (two 0 0) (two 2 2) ((two 0 0 ∷ []) ∷ (two 0 0 ∷ two 0 1 ∷ two 1 0 ∷ []) ∷ []) ≡ None)
    × (first_choice (two 1 1) (two 0 0) (two 0 2) ((two 0 0 ∷ []) ∷ (two 0 0 ∷ two 0 1 ∷ two 1 0 ∷ []) ∷ []) ≡ Some (two 0 0 ∷ two 0 1 ∷ []))
    × (first_choice (two 1 2) (two 0 0) (two 1 0) ((two 0 2 ∷ []) ∷ (two 0 1 ∷ two 1 0 ∷ []) ∷ []) ≡ Some (two 0 2 ∷ two 1 0 ∷ []))
goods_apart = (refl, refl, refl)

-- Nobody: the empty choice clears where no good has a price. A bidder without a bundle leaves no choice.
nobody :
    (first_choice (two 1 1) (two 0 0) (two 0 0) [] ≡ Some []) × (first_choice (two 1 1) (two 0 0) (two 0 1) [] ≡ None)
    × (first_choice (one 1) (one 0) (one 0) ((one 0 ∷ []) ∷ [] ∷ []) ≡ None)
nobody = (refl, refl, refl)
