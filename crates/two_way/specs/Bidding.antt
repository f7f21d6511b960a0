-- Bidders that report what they demand by their valuations, while the prices of a clock move.
use Rattle.std.specs.Prelude.{◌≡◌, ◌≢◌, ◌<◌, ◌+◌, ℕ, true, false, List, [], length, slice_index_or, ℤ, Some}
use Rattle.lot_base.specs.Economy.{demand}
use Rattle.lot_base.specs.Goods.{raised}
use Rattle.lot_base.specs.declared.auction_terms.Terms.{Terms}
use Rattle.valuation.specs.Values.{valuation_of}
use Rattle.trial.specs.Following.{Follows}
use Rattle.clock.specs.Reports.{demand_in}
use Rattle.two_way.specs.Histories.{TwoWayHistory}
use Rattle.two_way.specs.Standing.{steps_of, prices_of}
use Rattle.two_way.specs.declared.bidding.Bidder.{Bidder}

-- the bidder at a place of a list
abbrev pub bidder_in : List Bidder → ℕ → Bidder
bidder_in bidders place = slice_index_or bidders place (record { follower = record { supply = []; worth = []; set = 0; owed = 0 }; stays = false })

-- a bidder with this valuation at these prices
pub record IsBidder (goods : List ℕ) (v : List ℕ → ℤ) (prices : List ℕ) (b : Bidder) : Type 0 where
  pub over : b.follower.supply ≡ goods
  pub follows : Follows b.follower v prices

-- those of all bidders, from bidder 1 on
pub record AreBidders (terms : Terms) (u : ℕ → List ℕ → ℤ) (prices : List ℕ) (bidders : List Bidder) : Type 0 where
  pub count : length bidders ≡ terms.bidders
  pub each : (place : ℕ) → place < terms.bidders → IsBidder terms.goods (u (place + 1)) prices (bidder_in bidders place)

-- they followed the prices: who stays demands what it demanded before
pub record HaveFollowed (terms : Terms) (u : ℕ → List ℕ → ℤ) (before after : List ℕ) (bidders : List Bidder) : Type 0 where
  pub are : AreBidders terms u after bidders
  pub stay : (place : ℕ) → place < terms.bidders → (bidder_in bidders place).stays ≡ true → demand terms.goods (u (place + 1)) after ≡ demand terms.goods (u (place + 1)) before

-- the prices of a bidder rose by one on each good of a set
pub record IsRisen (set : ℕ) (old new : Bidder) : Type 0 where
  pub goods : new.follower.supply ≡ old.follower.supply
  pub follows : (v : List ℕ → ℤ) (p : List ℕ) → length p ≡ length old.follower.supply → Follows old.follower v p → Follows new.follower v (raised p set)
  pub stays : new.stays ≡ true → (v : List ℕ → ℤ) (p : List ℕ) → length p ≡ length old.follower.supply → Follows old.follower v p → demand old.follower.supply v (raised p set) ≡ demand old.follower.supply v p

-- each of a list is so
pub record AreRisen (set : ℕ) (old new : List Bidder) : Type 0 where
  pub count : length new ≡ length old
  pub each : (place : ℕ) → place < length old → IsRisen set (bidder_in old place) (bidder_in new place)

-- the prices of a bidder with these values are now these; who stays demands what it demanded before
pub record IsRenewed (values prices : List ℕ) (old new : Bidder) : Type 0 where
  pub goods : new.follower.supply ≡ old.follower.supply
  pub follows : Follows new.follower (valuation_of old.follower.supply values) prices
  pub stays : new.stays ≡ true → (u v : List ℕ → ℤ) (p q : List ℕ) → Follows old.follower u p → Follows new.follower v q → demand new.follower.supply v q ≡ demand old.follower.supply u p

-- so are those of each bidder of a list
pub record AreRenewed (values : List (List ℕ)) (prices : List ℕ) (old new : List Bidder) : Type 0 where
  pub count : length new ≡ length old
  pub each : (place : ℕ) → place < length old → IsRenewed (slice_index_or values place []) prices (bidder_in old place) (bidder_in new place)

-- who stays has reported in the round before what it demands at the prices of the present one
abbrev pub HaveSaid : (ℕ → List ℕ → ℤ) → TwoWayHistory → List Bidder → Type 0
HaveSaid u h bidders = (place : ℕ) → place < length bidders → place + 1 ≢ h.number → (bidder_in bidders place).stays ≡ true
    → demand_in h.reports (steps_of h) (place + 1) ≡ Some (demand h.terms.goods (u (place + 1)) (prices_of h))
