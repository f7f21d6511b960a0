-- The exchange property where two bundles differ in at most three units; it is the exchange property of all bundles of the box.
-- Source: Murota, "Discrete Convex Analysis", 2003, on local exchange; here over the box of a supply, with unsold units as one more good.
use Rattle.std.specs.Prelude.{◌<◌, ◌≢◌, ◌≡◌, ◌+◌, ◌⊎◌, ℕ, List, length, slice_index, ℤ}
use Rattle.lot_base.specs.Goods.{at, one_more, AtMost, box_size}
use Rattle.lot_base.specs.Box.{bundle_at}
use Rattle.lot_base.specs.Economy.{NoWorse}
use Rattle.exchange_check.specs.Exchange.{IsExchanged}

-- a unit is worth no more beside another unit than without it; of one good twice, this is concavity
abbrev pub IsSubmodular : List ℕ → (List ℕ → ℤ) → Type 0
IsSubmodular s u =
    (w : List ℕ) (i j : ℕ) → i < length s → j < length s → AtMost (one_more (one_more w i) j) s →
    NoWorse u (one_more (one_more w i) j) w (one_more w i) (one_more w j)

-- a pair of units against a unit of a third good: one of the pair changes place with it at no loss
abbrev pub HasThirdGoods : List ℕ → (List ℕ → ℤ) → Type 0
HasThirdGoods s u =
    (w : List ℕ) (i j k : ℕ) → i < length s → j < length s → k < length s → k ≢ i → k ≢ j →
    AtMost (one_more (one_more w i) j) s → AtMost (one_more w k) s →
    NoWorse u (one_more (one_more w i) j) (one_more w k) (one_more (one_more w i) k) (one_more w j)
    ⊎ NoWorse u (one_more (one_more w i) j) (one_more w k) (one_more (one_more w j) k) (one_more w i)

abbrev pub IsLocallyStrong : List ℕ → (List ℕ → ℤ) → Type 0
IsLocallyStrong s u = IsSubmodular s u × HasThirdGoods s u

-- the condition at w on units of i and j and a unit of k
abbrev pub IsLocalThird : List ℕ → (List ℕ → ℤ) → List ℕ → ℕ → ℕ → ℕ → Type 0
IsLocalThird s u w i j k =
    k ≢ i → k ≢ j → at w k < at s k →
    NoWorse u (one_more (one_more w i) j) (one_more w k) (one_more (one_more w i) k) (one_more w j)
    ⊎ NoWorse u (one_more (one_more w i) j) (one_more w k) (one_more (one_more w j) k) (one_more w i)

-- the conditions at w on units of i and j
abbrev pub IsLocalPair : List ℕ → (List ℕ → ℤ) → List ℕ → ℕ → ℕ → Type 0
IsLocalPair s u w i j =
    AtMost (one_more (one_more w i) j) s →
    NoWorse u (one_more (one_more w i) j) w (one_more w i) (one_more w j) × ((k : ℕ) → k < length s → IsLocalThird s u w i j k)

-- the conditions at w
abbrev pub IsLocalAt : List ℕ → (List ℕ → ℤ) → List ℕ → Type 0
IsLocalAt s u w = (i j : ℕ) → i < length s → j < length s → IsLocalPair s u w i j

-- how many units of each good the bundle at a place leaves
abbrev pub AreFree : List ℕ → ℕ → List ℕ → Type 0
AreFree s index free = (k : ℕ) → k < length s → slice_index free k + at (bundle_at s index) k ≡ at s k

-- places of two bundles, and the good, of the first triple that is not exchanged
abbrev pub IsFirstPlace : List ℕ → (List ℕ → ℤ) → ℕ → ℕ → ℕ → Type 0
IsFirstPlace s u x y k =
    (x < box_size s) × (y < box_size s) × (k < length s)
    × (IsExchanged u (bundle_at s x) (bundle_at s y) k → ⊥)
    × ((c : ℕ) → c < k → IsExchanged u (bundle_at s x) (bundle_at s y) c)
    × ((b c : ℕ) → b < y → c < length s → IsExchanged u (bundle_at s x) (bundle_at s b) c)
    × ((a b c : ℕ) → a < x → b < box_size s → c < length s → IsExchanged u (bundle_at s a) (bundle_at s b) c)
