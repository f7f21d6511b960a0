-- What a bundle with more units than count is worth: the most of what it is worth with one unit less.
use Rattle.std.specs.Prelude.{◌≤◌, ◌<◌, ◌-◌, ℕ, List, length, slice_index}
use Rattle.lot_base.specs.Goods.{at}

-- the greatest number that stands a step of a good before this place, over the goods of which the bundle has a unit
pub record IsBestLess (x steps worth : List ℕ) (index best : ℕ) : Type 0 where
  pub bound : (k : ℕ) → k < length x → 0 < at x k → slice_index worth (index - slice_index steps k) ≤ best
  pub least : (top : ℕ) → ((k : ℕ) → k < length x → 0 < at x k → slice_index worth (index - slice_index steps k) ≤ top) → best ≤ top

-- each step leads to a place before this one
pub record AreBefore (x steps : List ℕ) (index : ℕ) : Type 0 where
  pub some : (k : ℕ) → k < length x → 0 < at x k → 1 ≤ slice_index steps k
  pub few : (k : ℕ) → k < length x → 0 < at x k → slice_index steps k ≤ index
