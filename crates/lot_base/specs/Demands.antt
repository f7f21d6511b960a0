-- Lists of bundles, as bidders report them.
use Rattle.std.specs.Prelude.{◌≡◌, ◌≤◌, ◌<◌, ℕ, min, max, List, [], ◌∷◌, length, fold, slice_index, ◌^◌}
use Rattle.std.specs.List.{AllByRecursion}
use Rattle.std.specs.Cmp.Lexicographic.{slice_cmp}
use Rattle.std.specs.Ordering.{nat_cmp}
use Rattle.std.specs.declared.cmp.Ordering.TheVariants.{Less}
use Rattle.lot_base.specs.Goods.{quantity_in, AtMost}

-- the least and the greatest of f over a list of bundles, 0 for the empty list
abbrev pub least_of : (List ℕ → ℕ) → List (List ℕ) → ℕ
least_of f [] = 0
least_of f (x ∷ xs) = fold (λ a y. min a (f y)) (f x) xs

abbrev pub greatest_of : (List ℕ → ℕ) → List (List ℕ) → ℕ
greatest_of f [] = 0
greatest_of f (x ∷ xs) = fold (λ a y. max a (f y)) (f x) xs

-- the least and the greatest quantity on a set of goods in a list of bundles
abbrev pub least : List (List ℕ) → ℕ → ℕ
least bundles set = least_of (λ x. quantity_in x set) bundles

abbrev pub greatest : List (List ℕ) → ℕ → ℕ
greatest bundles set = greatest_of (λ x. quantity_in x set) bundles

-- each bundle comes before the next one in lexicographic order
abbrev pub IsAscending : List (List ℕ) → Type 0
IsAscending [] = Unit {0}
IsAscending (x ∷ []) = Unit {0}
IsAscending (x ∷ y ∷ rest) = (slice_cmp nat_cmp x y ≡ Less) × IsAscending (y ∷ rest)

-- bundles that a bidder may report at this supply: some bundle, in ascending order, all within the supply
pub record IsDemand (supply : List ℕ) (bundles : List (List ℕ)) : Type 0 where
  pub some : 1 ≤ length bundles
  pub ascending : IsAscending bundles
  pub in_box : AllByRecursion (λ x. AtMost x supply) bundles

-- a table over all sets of so many goods: the number of each set, and 0 after them
pub record IsTable (goods : ℕ) (f : ℕ → ℕ) (table : List ℕ) : Type 0 where
  pub entries : (set : ℕ) → set < 2 ^ goods → slice_index table set ≡ f set
  pub others : (set : ℕ) → 2 ^ goods ≤ set → slice_index table set ≡ 0
