-- Allocations and equilibria of an economy: bidders js, bidder j with the valuation u j, x j the bundle of bidder j.
-- Each good has an opening price, below which the seller does not sell; with an opening of 0 these are the textbook's
-- definitions. Sources: Mas-Colell, Whinston and Green, "Microeconomic Theory", 1995, chapters 16 and 23 (Walrasian equilibrium
-- with free disposal; Vickrey, Clarke and Groves); Ausubel 2006.
use Rattle.std.specs.Prelude.{◌≡◌, ◌<◌, ℕ, List, [], ◌∷◌, ℤ, pos, ◌+ℤ◌, ◌-ℤ◌, ◌≤ℤ◌}
use Rattle.std.specs.List.{AllByRecursion}
use Rattle.lot_base.specs.Goods.{cost, plus, zeros, at, AtMost}
use Rattle.lot_base.specs.Box.{IsIn}
use Rattle.lot_base.specs.Economy.{demand, sum_over, without}

-- what the bidders get together
abbrev pub total_bundle : List ℕ → (ℕ → List ℕ) → List ℕ → List ℕ
total_bundle supply x [] = zeros supply
total_bundle supply x (j ∷ js) = plus (x j) (total_bundle supply x js)

-- an allocation: a bundle for each bidder, together within the supply
pub record IsAllocation (supply : List ℕ) (js : List ℕ) (x : ℕ → List ℕ) : Type 0 where
  pub bundles : AllByRecursion (λ j. AtMost (x j) supply) js
  pub within : AtMost (total_bundle supply x js) supply

-- the summed value of the bidders
abbrev pub total_value : (ℕ → List ℕ → ℤ) → List ℕ → (ℕ → List ℕ) → ℤ
total_value u js x = sum_over (λ j. u j (x j)) js

-- what the unsold units are worth to the seller: the opening price of each
abbrev pub unsold_value : List ℕ → List ℕ → List ℕ → (ℕ → List ℕ) → ℤ
unsold_value supply opening js x = pos (cost opening supply) -ℤ pos (cost opening (total_bundle supply x js))

-- the worth of an allocation
abbrev pub worth : List ℕ → List ℕ → (ℕ → List ℕ → ℤ) → List ℕ → (ℕ → List ℕ) → ℤ
worth supply opening u js x = total_value u js x +ℤ unsold_value supply opening js x

-- w is the greatest worth over all allocations, W(js)
pub record IsWelfare (supply opening : List ℕ) (u : ℕ → List ℕ → ℤ) (js : List ℕ) (w : ℤ) : Type 0 where
  pub best : ℕ → List ℕ
  pub allocation : IsAllocation supply js best
  pub reached : worth supply opening u js best ≡ w
  pub bound : (x : ℕ → List ℕ) → IsAllocation supply js x → worth supply opening u js x ≤ℤ w

-- each bidder demands its bundle
abbrev pub AllDemanded : List ℕ → (ℕ → List ℕ → ℤ) → List ℕ → List ℕ → (ℕ → List ℕ) → Type 0
AllDemanded supply u p js x = AllByRecursion (λ j. IsIn (x j) (demand supply (u j) p)) js

-- a Walrasian equilibrium: prices of at least the opening and an allocation of demanded bundles, where each good with an
-- unsold unit has its opening price
pub record IsWalrasian (supply opening : List ℕ) (u : ℕ → List ℕ → ℤ) (js p : List ℕ) (x : ℕ → List ℕ) : Type 0 where
  pub prices : AtMost opening p
  pub allocation : IsAllocation supply js x
  pub demanded : AllDemanded supply u p js x
  pub unsold : (k : ℕ) → at (total_bundle supply x js) k < at supply k → at p k ≡ at opening k

-- p is a Walrasian price vector
abbrev pub IsWalrasianPrices : List ℕ → List ℕ → (ℕ → List ℕ → ℤ) → List ℕ → List ℕ → Type 0
IsWalrasianPrices supply opening u js p = (x : ℕ → List ℕ) × IsWalrasian supply opening u js p x

-- p is a Walrasian price vector, and at most every other one on every good
abbrev pub IsLeastWalrasian : List ℕ → List ℕ → (ℕ → List ℕ → ℤ) → List ℕ → List ℕ → Type 0
IsLeastWalrasian supply opening u js p =
    IsWalrasianPrices supply opening u js p × ((q : List ℕ) → IsWalrasianPrices supply opening u js q → AtMost p q)

-- What bidder i pays at an allocation x after Vickrey, Clarke and Groves: the welfare of the others without it, less what
-- the others and the seller have at x.
pub record IsVcgPayment (supply opening : List ℕ) (u : ℕ → List ℕ → ℤ) (js : List ℕ) (x : ℕ → List ℕ) (i : ℕ) (pay : ℤ) : Type 0 where
  pub allocation : IsAllocation supply js x
  pub others : ℤ
  pub welfare : IsWelfare supply opening u (without i js) others
  pub pays : pay ≡ (others -ℤ total_value u (without i js) x) -ℤ unsold_value supply opening js x
