-- What a bidder demands while prices rise on one set of goods, by his surpluses at prices before.
use Rattle.std.specs.Prelude.{◌≡◌, ◌≢◌, ◌≤◌, ◌+◌, ◌*◌, ℕ, List, length, slice_index, ℤ, pos, ◌+ℤ◌}
use Rattle.lot_base.specs.Goods.{AtMost, quantity_in}
use Rattle.lot_base.specs.Box.{index_of}
use Rattle.lot_base.specs.Economy.{demand, surplus}
use Rattle.valuation.specs.Carried.{CarriesAt, cut, raised_by}

-- the numbers of the bundles of a supply before so many steps on a set
pub record Followed : Type 0 where
  pub supply : List ℕ
  pub worth : List ℕ
  pub set : ℕ
  pub owed : ℕ

-- each number is one more than the surplus of the bundle at the prices and the units that it owes, or 0 where that is below 0
abbrev pub Follows : Followed → (List ℕ → ℤ) → List ℕ → Type 0
Follows f u p = (x : List ℕ) → AtMost x f.supply → slice_index f.worth (index_of f.supply x) ≡ cut (surplus u p x +ℤ pos (f.owed * quantity_in x f.set + 1))

-- whoever has these numbers at some prices demands the same after so many steps on the set, and after fewer
pub record StaysFor (supply worth : List ℕ) (set steps : ℕ) : Type 0 where
  pub same : (v : List ℕ → ℤ) (p : List ℕ) → length p ≡ length supply → CarriesAt supply worth v p → (n : ℕ) → n ≤ steps → demand supply v (raised_by n set p) ≡ demand supply v p

-- the same bidder at the same prices, for steps on a set
pub record IsOn (set : ℕ) (old new : Followed) : Type 0 where
  pub goods : new.supply ≡ old.supply
  pub on : new.set ≡ set
  pub follows : (u : List ℕ → ℤ) (p : List ℕ) → length p ≡ length old.supply → Follows old u p → Follows new u p

-- the same bidder at the same prices; for steps on other sets than this one nothing is owed
pub record IsReady (set : ℕ) (old new : Followed) : Type 0 where
  pub goods : new.supply ≡ old.supply
  pub same : new.owed ≢ 0 → new.set ≡ set
  pub follows : (u : List ℕ → ℤ) (p : List ℕ) → length p ≡ length old.supply → Follows old u p → Follows new u p

-- the same bidder after so many steps on its set
pub record IsStepped (times : ℕ) (old new : Followed) : Type 0 where
  pub goods : new.supply ≡ old.supply
  pub follows : (u : List ℕ → ℤ) (p : List ℕ) → length p ≡ length old.supply → Follows old u p → Follows new u (raised_by times old.set p)

-- after so many steps on a set it demands the same
pub record IsSteady (set steps : ℕ) (f : Followed) : Type 0 where
  pub same : (u : List ℕ → ℤ) (p : List ℕ) → length p ≡ length f.supply → Follows f u p → demand f.supply u (raised_by steps set p) ≡ demand f.supply u p
