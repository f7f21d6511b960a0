-- Goods, sets of goods, bundles and prices.
-- Goods are numbered from 0. A list of numbers has one number per good: the supply, the quantities of a bundle, or the
-- prices. A set of goods is a number whose binary digit k says whether good k is in it; digits from the number of goods
-- on mean nothing.
use Rattle.std.specs.Prelude.{◌≡◌, ◌≤◌, ◌<◌, ℕ, ◌+◌, ◌-◌, ◌*◌, ◌/◌, ◌%◌, ◌==◌, nat_le, if◌then◌else◌, Bool, ◌&&◌, List, [], ◌∷◌, length, replicate, position, None, zero, suc, slice_index, slice_set, zip}
use Rattle.std.specs.List.{AllZip, list_all}
use Rattle.lot_base.specs.declared.limits.TheConstants.{MOST_GOODS, MOST_BUNDLES}

-- the units of the goods of the set, x(E)
abbrev pub quantity_in : List ℕ → ℕ → ℕ
quantity_in [] set = 0
quantity_in (x ∷ xs) set = (if set % 2 == 1 then x else 0) + quantity_in xs (set / 2)

-- the prices, one more on each good of the set, p + 1_E
abbrev pub raised : List ℕ → ℕ → List ℕ
raised [] set = []
raised (p ∷ ps) set = (if set % 2 == 1 then p + 1 else p) ∷ raised ps (set / 2)

-- the prices, one less on each good of the set, and no less than 0
abbrev pub lowered : List ℕ → ℕ → List ℕ
lowered [] set = []
lowered (p ∷ ps) set = (if set % 2 == 1 then p - 1 else p) ∷ lowered ps (set / 2)

-- how many of the first so many goods are in the set
abbrev pub size_of : ℕ → ℕ → ℕ
size_of zero set = 0
size_of (suc goods) set = set % 2 + size_of goods (set / 2)

-- what the bundle costs at the prices, p·x
abbrev pub cost : List ℕ → List ℕ → ℕ
cost [] xs = 0
cost (p ∷ ps) [] = 0
cost (p ∷ ps) (x ∷ xs) = p * x + cost ps xs

-- the sum, good by good
abbrev pub plus : List ℕ → List ℕ → List ℕ
plus [] ys = ys
plus (x ∷ xs) [] = x ∷ xs
plus (x ∷ xs) (y ∷ ys) = (x + y) ∷ plus xs ys

-- nothing of each good: the empty bundle, and prices of 0
abbrev pub zeros : List ℕ → List ℕ
zeros supply = replicate (length supply) 0

-- the number of good k, 0 where there is no such good
abbrev pub at : List ℕ → ℕ → ℕ
at xs k = slice_index xs k

-- one unit more of good k, and one unit less, where there is one
abbrev pub one_more : List ℕ → ℕ → List ℕ
one_more xs k = slice_set xs k (slice_index xs k + 1)

abbrev pub one_less : List ℕ → ℕ → List ℕ
one_less xs k = slice_set xs k (slice_index xs k - 1)

-- as many goods, and at most as much of each. A bundle is in the box of a supply where it is at most the supply.
abbrev pub AtMost : List ℕ → List ℕ → Type 0
AtMost xs ys = AllZip (λ x y. x ≤ y) xs ys

-- the same as a test: whether the bundle is in the box of the supply
abbrev pub is_within : List ℕ → List ℕ → Bool
is_within supply bundle = (length supply == length bundle) && list_all (λ p. nat_le p.1 p.0) (zip supply bundle)

-- the number of bundles in the box of a supply
abbrev pub box_size : List ℕ → ℕ
box_size [] = 1
box_size (s ∷ supply) = (s + 1) * box_size supply

-- a supply that can be sold: 1 to 6 goods, no good without a unit, and at most 2,048 bundles in its box
pub record IsSupply (supply : List ℕ) : Type 0 where
  pub some_good : 1 ≤ length supply
  pub few_goods : length supply ≤ MOST_GOODS
  pub units : position (λ s. s == 0) supply ≡ None
  pub small : box_size supply ≤ MOST_BUNDLES

-- prices from which an ascending auction can start: one for each good, and each below the ceiling
pub record IsOpening (supply : List ℕ) (ceiling : ℕ) (opening : List ℕ) : Type 0 where
  pub goods : length opening ≡ length supply
  pub below : position (λ price. nat_le ceiling price) opening ≡ None

-- each price of the set is below the limit
abbrev pub AllBelow : ℕ → List ℕ → ℕ → Type 0
AllBelow limit [] set = Unit {0}
AllBelow limit (p ∷ ps) set = (set % 2 ≡ 1 → p < limit) × AllBelow limit ps (set / 2)

-- each price of the set is above 0
abbrev pub AllPriced : List ℕ → ℕ → Type 0
AllPriced [] set = Unit {0}
AllPriced (p ∷ ps) set = (set % 2 ≡ 1 → 0 < p) × AllPriced ps (set / 2)

-- the number is from low to high
pub record IsRange (low high n : ℕ) : Type 0 where
  pub at_least : low ≤ n
  pub at_most : n ≤ high
