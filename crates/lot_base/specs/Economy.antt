-- Bidders and what they want: valuations, demand sets and the Lyapunov function. Nothing here speaks of a clock, a round
-- or a step.
-- A valuation is a function from bundles to integers; only its values on the box of the supply matter. Sources: Ausubel,
-- "An Efficient Dynamic Auction for Heterogeneous Commodities", American Economic Review 96(3), 2006; Milgrom and Strulovici,
-- "Substitute Goods, Auctions, and Equilibrium", Journal of Economic Theory 144, 2009 (strong substitutes); Murota, "Discrete
-- Convex Analysis", 2003 (the exchange property of M-natural-concave functions).
use Rattle.std.specs.Prelude.{◌==◌, not, ◌≡◌, ◌⊎◌, ◌<◌, ℕ, ◌+◌, List, [], ◌∷◌, filter, ℤ, pos, ◌+ℤ◌, ◌-ℤ◌, ◌≤ℤ◌}
use Rattle.std.specs.List.{AllByRecursion}
use Rattle.std.specs.Int.{int_max}
use Rattle.std.specs.Ordering.{int_eq}
use Rattle.lot_base.specs.Goods.{cost, zeros, at, one_more, one_less, AtMost}
use Rattle.lot_base.specs.Box.{box}

-- the empty bundle is worth nothing
abbrev pub IsValuation : List ℕ → (List ℕ → ℤ) → Type 0
IsValuation supply u = u (zeros supply) ≡ pos 0

-- a pair of bundles is worth no more than another pair
abbrev pub NoWorse : (List ℕ → ℤ) → List ℕ → List ℕ → List ℕ → List ℕ → Type 0
NoWorse u x y x' y' = (u x +ℤ u y) ≤ℤ (u x' +ℤ u y')

-- Strong substitutes, as the exchange property: where x has more of good k than y, giving a unit of k from x to y, alone
-- or against a unit of a good of which y has more, does not lower what the two are worth together.
abbrev pub IsStrongSubstitutes : List ℕ → (List ℕ → ℤ) → Type 0
IsStrongSubstitutes supply u =
    (x y : List ℕ) (k : ℕ) → AtMost x supply → AtMost y supply → at y k < at x k →
    NoWorse u x y (one_less x k) (one_more y k)
    ⊎ ((l : ℕ) × (at x l < at y l) × NoWorse u x y (one_more (one_less x k) l) (one_less (one_more y k) l))

-- what a bundle is worth beyond its cost, u(x) - p·x
abbrev pub surplus : (List ℕ → ℤ) → List ℕ → List ℕ → ℤ
surplus u p x = u x -ℤ pos (cost p x)

-- the greatest of f over a list, 0 for the empty list
abbrev pub greatest_value : (List ℕ → ℤ) → List (List ℕ) → ℤ
greatest_value f [] = pos 0
greatest_value f (x ∷ []) = f x
greatest_value f (x ∷ (y ∷ ys)) = int_max (f x) (greatest_value f (y ∷ ys))

-- the indirect utility V(p): the greatest surplus over the box
unfoldable pub indirect_utility : List ℕ → (List ℕ → ℤ) → List ℕ → ℤ
indirect_utility supply u p = greatest_value (surplus u p) (box supply)

-- the demand set D(p): all bundles of the box that reach it, in ascending order
unfoldable pub demand : List ℕ → (List ℕ → ℤ) → List ℕ → List (List ℕ)
demand supply u p = filter (λ x. int_eq (surplus u p x) (indirect_utility supply u p)) (box supply)

-- the same in other words: a bundle within the supply, and none has a greater surplus
abbrev pub IsDemanded : List ℕ → (List ℕ → ℤ) → List ℕ → List ℕ → Type 0
IsDemanded supply u p x = AtMost x supply × ((y : List ℕ) → AtMost y supply → surplus u p y ≤ℤ surplus u p x)

-- sums over the bidders of a list
abbrev pub sum_over : (ℕ → ℤ) → List ℕ → ℤ
sum_over f [] = pos 0
sum_over f (j ∷ js) = f j +ℤ sum_over f js

abbrev pub total_units : (ℕ → ℕ) → List ℕ → ℕ
total_units f [] = 0
total_units f (j ∷ js) = f j + total_units f js

-- the bidders but one
abbrev pub without : ℕ → List ℕ → List ℕ
without b bidders = filter (λ j. not (j == b)) bidders

-- each bidder of the list has a valuation, it has the exchange property, and it is below the ceiling at every bundle
abbrev pub AllValuations : List ℕ → (ℕ → List ℕ → ℤ) → List ℕ → Type 0
AllValuations supply u js = AllByRecursion (λ j. IsValuation supply (u j)) js

abbrev pub AllStrongSubstitutes : List ℕ → (ℕ → List ℕ → ℤ) → List ℕ → Type 0
AllStrongSubstitutes supply u js = AllByRecursion (λ j. IsStrongSubstitutes supply (u j)) js

abbrev pub AllBelowCeiling : List ℕ → (ℕ → List ℕ → ℤ) → ℕ → List ℕ → Type 0
AllBelowCeiling supply u ceiling js = AllByRecursion (λ j. (x : List ℕ) → AtMost x supply → (u j x +ℤ pos 1) ≤ℤ pos ceiling) js

-- the Lyapunov function L(p) = p·S + the sum of V(p) over the bidders
unfoldable pub lyapunov : List ℕ → (ℕ → List ℕ → ℤ) → List ℕ → List ℕ → ℤ
lyapunov supply u js p = pos (cost p supply) +ℤ sum_over (λ j. indirect_utility supply (u j) p) js

-- p is a price vector of at least the opening, and g is nowhere less among these
abbrev pub IsMinimiser : List ℕ → (List ℕ → ℤ) → List ℕ → Type 0
IsMinimiser opening g p = AtMost opening p × ((q : List ℕ) → AtMost opening q → g p ≤ℤ g q)

-- p is the least of them, good by good
abbrev pub IsLeastMinimiser : List ℕ → (List ℕ → ℤ) → List ℕ → Type 0
IsLeastMinimiser opening g p = IsMinimiser opening g p × ((q : List ℕ) → IsMinimiser opening g q → AtMost p q)
