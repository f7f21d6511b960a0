-- Paths of prices: from an opening, prices rise by one on the step set of what the bidders truly demand, again and again, as in
-- the ascending clock auction of Ausubel 2006. Bidder j has the valuation u j; the bidders of a path are a list of numbers.
-- A path need not have ended: it is the steps up to some moment.
use Rattle.std.specs.Prelude.{◌≡◌, ◌≢◌, ◌≤◌, ℕ, ◌+◌, ◌-◌, ◌/◌, max, map, List, [], ◌∷◌, length, ℤ, pos, ◌+ℤ◌, ◌-ℤ◌, ◌≤ℤ◌}
use Rattle.lot_base.specs.Goods.{quantity_in, raised, cost, plus, at, AtMost}
use Rattle.lot_base.specs.Demands.{least}
use Rattle.lot_base.specs.Economy.{demand, total_units, without, AllStrongSubstitutes}
use Rattle.lot_base.specs.Choices.{IsClearingChoice}
use Rattle.lot_base.specs.Steps.{step_set}

-- the step set of what the bidders truly demand at the prices
abbrev pub true_step : List ℕ → (ℕ → List ℕ → ℤ) → List ℕ → List ℕ → ℕ
true_step supply u js p = step_set supply (λ j. demand supply (u j) p) js

-- the prices after raising them on one set after the other
abbrev pub prices_along : List ℕ → List ℕ → List ℕ
prices_along p [] = p
prices_along p (set ∷ sets) = prices_along (raised p set) sets

-- each set is the step set at the prices reached before it, and none is empty
abbrev pub AllSteps : List ℕ → (ℕ → List ℕ → ℤ) → List ℕ → List ℕ → List ℕ → Type 0
AllSteps supply u js p [] = Unit {0}
AllSteps supply u js p (set ∷ sets) = (set ≢ 0) × (set ≡ true_step supply u js p) × AllSteps supply u js (raised p set) sets

-- a path of step sets from an opening, where the bidders have strong substitutes
pub record IsPath (supply : List ℕ) (u : ℕ → List ℕ → ℤ) (js opening sets : List ℕ) : Type 0 where
  pub substitutes : AllStrongSubstitutes supply u js
  pub goods : length opening ≡ length supply
  pub steps : AllSteps supply u js opening sets

-- the path has ended: at the prices that it has reached, no set of goods is in excess demand
abbrev pub HasEnded : List ℕ → (ℕ → List ℕ → ℤ) → List ℕ → List ℕ → List ℕ → Type 0
HasEnded supply u js opening sets = true_step supply u js (prices_along opening sets) ≡ 0

-- what the account of these bidders keeps of the steps: the supply of each set, less the least that they demanded of it
abbrev pub account_along : List ℕ → (ℕ → List ℕ → ℤ) → List ℕ → List ℕ → List ℕ → ℤ
account_along supply u js p [] = pos 0
account_along supply u js p (set ∷ sets) =
    (pos (quantity_in supply set) -ℤ pos (total_units (λ j. least (demand supply (u j) p) set) js)) +ℤ account_along supply u js (raised p set) sets

-- what bidder i pays for a bundle: its price on the path of all, more by what the others' account keeps on the path without i,
-- and less by what it keeps on the path of all
abbrev pub payment_along : List ℕ → (ℕ → List ℕ → ℤ) → List ℕ → List ℕ → List ℕ → List ℕ → ℕ → List ℕ → ℤ
payment_along supply u js opening sets rests i x =
    (pos (cost (prices_along opening sets) x) +ℤ account_along supply u (without i js) opening rests) -ℤ account_along supply u (without i js) opening sets

-- a choice of what the bidders truly demand at the prices reached, one bundle each, that clears
abbrev pub IsTrueChoice : List ℕ → List ℕ → (ℕ → List ℕ → ℤ) → List ℕ → List ℕ → List (List ℕ) → Type 0
IsTrueChoice supply opening u js sets choice =
    IsClearingChoice supply opening (prices_along opening sets) (map (λ j. demand supply (u j) (prices_along opening sets)) js) choice

-- the highest of the prices, and the most that one of them is above its opening
abbrev pub highest : List ℕ → ℕ
highest [] = 0
highest (p ∷ ps) = max p (highest ps)

abbrev pub highest_rise : List ℕ → List ℕ → ℕ
highest_rise [] ps = 0
highest_rise (o ∷ opening) [] = 0
highest_rise (o ∷ opening) (p ∷ ps) = max (p - o) (highest_rise opening ps)

-- no price is more than so much above its opening
abbrev pub IsNear : List ℕ → ℕ → List ℕ → Type 0
IsNear opening n p = (k : ℕ) → at p k ≤ at opening k + n

-- the prices are at most so far above the opening, no others as near have a lower value of g, and those that have as low a
-- one are at least these
pub record IsLeastNear (opening : List ℕ) (n : ℕ) (g : List ℕ → ℤ) (p : List ℕ) : Type 0 where
  pub above : AtMost opening p
  pub near : IsNear opening n p
  pub best : (q : List ℕ) → AtMost opening q → IsNear opening n q → g p ≤ℤ g q
  pub least : (q : List ℕ) → AtMost opening q → IsNear opening n q → g q ≤ℤ g p → AtMost p q

-- halfway between two price vectors, rounded down and rounded up on each good
abbrev pub halfway_down : List ℕ → List ℕ → List ℕ
halfway_down p q = map (λ n. n / 2) (plus p q)

abbrev pub halfway_up : List ℕ → List ℕ → List ℕ
halfway_up p q = map (λ n. (n + 1) / 2) (plus p q)
