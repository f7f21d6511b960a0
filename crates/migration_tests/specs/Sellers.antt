-- The clocks that were read from the journals of an auction.
use Rattle.std.specs.Prelude.{◌≡◌, ◌<◌, ℕ, List, length, slice_index_or}
use Rattle.lot_base.specs.declared.auction_terms.Terms.{Terms}
use Rattle.clock.specs.Reports.{ClockHistory}

-- the first clocks of these terms
pub record AreClocksOf (terms : Terms) (count : ℕ) (clocks : List ClockHistory) : Type 0 where
  pub count_is : length clocks ≡ count
  pub each : (k : ℕ) (c : ClockHistory) → k < length clocks → ((slice_index_or clocks k c).terms ≡ terms) × ((slice_index_or clocks k c).number ≡ k)
