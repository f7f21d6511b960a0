-- Four forms in which a bidder says what a bundle is worth: a table of all bundles; the marginal value of each unit of each
-- good; one unit of any good, the best of them; and at most so many units in all. Each number is a value.
-- Sources: Lehmann, Lehmann and Nisan, "Combinatorial auctions with decreasing marginal utilities", Games and Economic Behavior
-- 55(2), 2006 (marginal values, unit demand); Gul and Stacchetti, "Walrasian Equilibrium with Gross Substitutes", Journal of
-- Economic Theory 87, 1999 (the k-satiation of a valuation, a cap).
use Rattle.std.specs.Prelude.{ℕ, ◌+◌, nat_le, max, if◌then◌else◌, List, [], ◌∷◌, take, drop, filter}
use Rattle.lot_base.specs.Goods.{cost}
use Rattle.lot_base.specs.Box.{box}
use Rattle.lot_base.specs.Demands.{greatest_of}

-- the sum of the numbers
abbrev pub total : List ℕ → ℕ
total [] = 0
total (n ∷ ns) = n + total ns

-- of each good as many units as the bundle has: the entries say what the first unit of good 0 is worth, the second, and so on to
-- the supply of good 0, then the same for good 1 and each other good
abbrev pub marginal_value : List ℕ → List ℕ → List ℕ → ℕ
marginal_value [] entries x = 0
marginal_value (s ∷ supply) entries [] = 0
marginal_value (s ∷ supply) entries (q ∷ x) = total (take q entries) + marginal_value supply (drop s entries) x

-- the best good of which the bundle has a unit, or nothing
abbrev pub unit_value : List ℕ → List ℕ → ℕ
unit_value [] x = 0
unit_value (v ∷ values) [] = 0
unit_value (v ∷ values) (q ∷ x) = max (if nat_le 1 q then v else 0) (unit_value values x)

-- the best part of the bundle that has at most so many units in all, where each unit of good k is worth value k
unfoldable pub capped_value : List ℕ → ℕ → List ℕ → ℕ
capped_value values cap x = greatest_of (cost values) (filter (λ y. nat_le (total y) cap) (box x))
