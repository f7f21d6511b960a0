-- What two-way clocks of an auction settle: the awards of the clock of all, and the payments by the sums of all clocks. The payments are
-- those of Ausubel, "An Efficient Dynamic Auction for Heterogeneous Commodities", American Economic Review 96(3), 2006, for clocks that
-- start at any prices.
use Rattle.std.specs.Prelude.{◌≡◌, ◌+◌, ℕ, List, [], ◌∷◌, map, Option, Some, ℤ, pos, ◌+ℤ◌, ◌-ℤ◌}
use Rattle.std.specs.List.{AllByRecursion, AllZip, range_with_len}
use Rattle.lot_base.specs.Goods.{cost}
use Rattle.lot_base.specs.Choices.{first_choice}
use Rattle.lot_base.specs.Equilibrium.{IsWalrasian}
use Rattle.lot_base.specs.declared.auction_terms.Terms.{Terms}
use Rattle.lot_base.specs.declared.phases.Phase.TheVariants.{Ended}
use Rattle.lyapunov.specs.Bidders.{bundle_of}
use Rattle.clock.specs.Reports.{all_bidders}
use Rattle.settlement.specs.Efficient.{PaysVcg}
use Rattle.settlement.specs.declared.outcome.AwardRow.{AwardRow}
use Rattle.two_way.specs.Histories.{TwoWayHistory, members_in}
use Rattle.two_way.specs.Standing.{prices_of, phase_of, last_demands, sum_without}

-- the first choice that clears, of what the members demand in the last round at its prices, if one does
unfoldable pub choice_of : TwoWayHistory → Option (List (List ℕ))
choice_of h = first_choice h.terms.goods h.terms.opening (prices_of h) (map (last_demands h) (members_in h))

-- all two-way clocks of an auction, in the order of their numbers, each from the same start prices, and each has ended
pub record AreEnded (terms : Terms) (start : List ℕ) (clocks : List TwoWayHistory) : Type 0 where
  -- clock 0, and one for each bidder
  pub numbers : map (λ (h : TwoWayHistory). h.number) clocks ≡ range_with_len 0 (terms.bidders + 1)
  -- the terms, the start and the end are the same for all
  pub terms_are : AllByRecursion (λ (h : TwoWayHistory). h.terms ≡ terms) clocks
  pub starts : AllByRecursion (λ (h : TwoWayHistory). h.start ≡ start) clocks
  pub ended : AllByRecursion (λ (h : TwoWayHistory). phase_of h ≡ Ended) clocks

-- the row of a bidder with an award, from the clock of all bidders and the clock without it
pub record IsAwardRow (all own : TwoWayHistory) (row : AwardRow) : Type 0 where
  -- the sum of the clock without the bidder
  pub debit_is : row.debit ≡ sum_without own 0
  -- the sum of the clock of all, with the bidder left out
  pub credit_is : row.credit ≡ sum_without all own.number
  -- the price of the award, the debit more and the credit less
  pub pays_is : row.pays ≡ (pos (cost (prices_of all) row.award) +ℤ row.debit) -ℤ row.credit

-- prices, rows and choices of these clocks
pub record AreFloated (all : TwoWayHistory) (others : List TwoWayHistory) (prices : List ℕ) (rows : List AwardRow) (choices : List (List (List ℕ))) : Type 0 where
  -- the last prices of the clock of all
  pub prices_are : prices ≡ prices_of all
  -- its first choice that clears gives the awards
  pub awards_are : choice_of all ≡ Some (map (λ (row : AwardRow). row.award) rows)
  -- there is a row for each bidder
  pub rows_are : AllZip (IsAwardRow all) others rows
  -- and for each clock its first choice that clears
  pub choices_are : AllZip (λ h choice. choice_of h ≡ Some choice) (all ∷ others) choices

-- the same of a list of clocks, which has a clock of all
abbrev pub AreFloatedBy : List TwoWayHistory → List ℕ → List AwardRow → List (List (List ℕ)) → Type 0
AreFloatedBy [] prices rows choices = ⊥
AreFloatedBy (all ∷ others) prices rows choices = AreFloated all others prices rows choices

-- what the rows award each bidder
abbrev pub award_of : Terms → List AwardRow → ℕ → List ℕ
award_of terms rows = bundle_of (all_bidders terms.bidders) (map (λ (row : AwardRow). row.award) rows)

-- an equilibrium of the bidders' economy, with the payments of Vickrey, Clarke and Groves; the prices need not be the least
pub record IsEfficient (u : ℕ → List ℕ → ℤ) (terms : Terms) (prices : List ℕ) (rows : List AwardRow) : Type 0 where
  -- prices and awards are an equilibrium
  pub equilibrium : IsWalrasian terms.goods terms.opening u (all_bidders terms.bidders) prices (award_of terms rows)
  -- each bidder pays what it takes from the others
  pub payments : AllZip (PaysVcg u terms (award_of terms rows)) (all_bidders terms.bidders) rows
