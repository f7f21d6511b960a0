-- The exchange property for one triple, and the first triple that breaks it.
-- Sources: Murota, "Discrete Convex Analysis", 2003 (the exchange property of M-natural-concave functions); Milgrom and Strulovici,
-- "Substitute Goods, Auctions, and Equilibrium", Journal of Economic Theory 144, 2009 (strong substitutes).
use Rattle.std.specs.Prelude.{◌<◌, ◌⊎◌, ℕ, List, length, ℤ}
use Rattle.lot_base.specs.Goods.{at, one_more, one_less, AtMost}
use Rattle.lot_base.specs.Box.{index_of}
use Rattle.lot_base.specs.Economy.{NoWorse}

-- a unit of k goes from x to y against one of l, of which y has more, and the two are worth as much together
abbrev pub IsExchangedFor : (List ℕ → ℤ) → List ℕ → List ℕ → ℕ → ℕ → Type 0
IsExchangedFor u x y k l = (at x l < at y l) × NoWorse u x y (one_more (one_less x k) l) (one_less (one_more y k) l)

-- where x has more of good k than y, a unit of it goes from x to y, alone or against a unit of another good
abbrev pub IsExchanged : (List ℕ → ℤ) → List ℕ → List ℕ → ℕ → Type 0
IsExchanged u x y k =
    at y k < at x k →
    NoWorse u x y (one_less x k) (one_more y k)
    ⊎ ((l : ℕ) × (at x l < at y l) × NoWorse u x y (one_more (one_less x k) l) (one_less (one_more y k) l))

-- the first triple that is not exchanged, by index of x, index of y, and good
pub record IsFirstBroken (supply : List ℕ) (u : List ℕ → ℤ) (x y : List ℕ) (k : ℕ) : Type 0 where
  pub in_x : AtMost x supply
  pub in_y : AtMost y supply
  pub good : k < length supply
  pub broken : IsExchanged u x y k → ⊥
  pub goods : (l : ℕ) → l < k → IsExchanged u x y l
  pub bundles : (b : List ℕ) (l : ℕ) → AtMost b supply → index_of supply b < index_of supply y → l < length supply → IsExchanged u x b l
  pub pairs : (a b : List ℕ) (l : ℕ) → AtMost a supply → AtMost b supply → index_of supply a < index_of supply x → l < length supply → IsExchanged u a b l
