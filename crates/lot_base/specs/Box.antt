-- The box of a supply: all bundles within it, in lexicographic order, good 0 first; and the place of a bundle in it.
use Rattle.std.specs.Prelude.{◌≡◌, ℕ, ◌+◌, ◌*◌, ◌/◌, ◌%◌, ◌⊎◌, List, [], ◌∷◌, map, flat_map}
use Rattle.std.specs.List.{range_with_len}
use Rattle.lot_base.specs.Goods.{box_size}

-- all bundles within the supply
abbrev pub box : List ℕ → List (List ℕ)
box [] = [] ∷ []
box (s ∷ supply) = flat_map (λ q. map (λ xs. q ∷ xs) (box supply)) (range_with_len 0 (s + 1))

-- the bundle is one of the list
abbrev pub IsIn : List ℕ → List (List ℕ) → Type 0
IsIn x [] = ⊥
IsIn x (y ∷ ys) = (x ≡ y) ⊎ IsIn x ys

-- The place of a bundle, and the bundle at a place: a number whose digit at good k counts the boxes of the goods after it.
abbrev pub index_of : List ℕ → List ℕ → ℕ
index_of [] bundle = 0
index_of (s ∷ supply) [] = 0
index_of (s ∷ supply) (x ∷ bundle) = x * box_size supply + index_of supply bundle

abbrev pub bundle_at : List ℕ → ℕ → List ℕ
bundle_at [] place = []
bundle_at (s ∷ supply) place = (place / box_size supply) ∷ bundle_at supply (place % box_size supply)
