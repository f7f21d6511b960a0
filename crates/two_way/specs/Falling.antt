-- The set of goods on which a round of demands lowers the prices, on the way down of a two-way clock: among the sets of goods
-- whose prices are all above their opening, the one of which the greatest quantities that the members demand leave most of the
-- supply; among these the one with fewest goods, and then the smallest as a number. It mirrors the step set of the way up.
-- Sources: Ausubel, "An Efficient Dynamic Auction for Heterogeneous Commodities", American Economic Review 96(3), 2006 (the
-- descending and the global Walrasian auction); Murota, Shioura and Yang, "Time bounds for iterative auctions: a unified approach by
-- discrete convex analysis", Discrete Optimization 19, 2016 (two-phase auctions).
use Rattle.std.specs.Prelude.{◌≤ℤ◌, ℕ, ◌/◌, ◌%◌, ◌==◌, min, nat_lt, Bool, true, not, ◌&&◌, ◌||◌, if◌then◌else◌, List, [], ◌∷◌, length, ℤ, negsuc}
use Rattle.lot_base.specs.Goods.{AtMost}
use Rattle.lot_base.specs.Economy.{demand}
use Rattle.lot_base.specs.Steps.{first_set}
use Rattle.overshoot.specs.Shortfall.{shortfall}

-- whether each price of the set is above its opening
abbrev pub is_risen : List ℕ → List ℕ → ℕ → Bool
is_risen [] ps set = true
is_risen (o ∷ opening) [] set = true
is_risen (o ∷ opening) (p ∷ ps) set = (not (set % 2 == 1) || nat_lt o p) && is_risen opening ps (set / 2)

-- the shortfall of such a set; any other set comes after the empty one, whose shortfall is 0
abbrev pub short_of_risen : List ℕ → List ℕ → (ℕ → ℤ) → ℕ → ℤ
short_of_risen opening p short set = if is_risen opening p set then short set else negsuc 0

-- the set of greatest shortfall, as a function: the first in the order of sets as steps
unfoldable pub fall_set : List ℕ → List ℕ → List ℕ → (ℕ → List (List ℕ)) → List ℕ → ℕ
fall_set supply opening p demands members = first_set (short_of_risen opening p (shortfall supply demands members)) (length supply)

-- the fall set of what the bidders truly demand at the prices
abbrev pub true_fall : List ℕ → List ℕ → (ℕ → List ℕ → ℤ) → List ℕ → List ℕ → ℕ
true_fall supply opening u js p = fall_set supply opening p (λ j. demand supply (u j) p) js

-- the goodwise lesser of two price vectors
abbrev pub lesser : List ℕ → List ℕ → List ℕ
lesser [] ys = []
lesser (x ∷ xs) [] = []
lesser (x ∷ xs) (y ∷ ys) = min x y ∷ lesser xs ys

-- p is at least the opening, and the goodwise lesser of p and of any other such prices is no worse than those others: some
-- prices that minimise g lie below p
pub record IsHeld (opening : List ℕ) (g : List ℕ → ℤ) (p : List ℕ) : Type 0 where
  -- no price is below the opening
  pub above : AtMost opening p
  -- nothing is lost by going down to the lesser of the two
  pub lesser_no_worse : (q : List ℕ) → AtMost opening q → g (lesser p q) ≤ℤ g q
