-- The command `float AUCTION VALUES START`: what the clocks of an auction settle that start at these prices and go up, and then down, where each
-- bidder reports what it demands by its valuation:
--
--     floated goods K bidders N start P..
--     prices P..
--     bidder I award X.. debit D credit E pays M      for each bidder, from 1
--     clock C up T down D prices P..                  for each clock, from 0
--     choice C J X..                                  after its clock, for each member in order
use Rattle.std.specs.Prelude.{◌≡◌, ◌++◌, ℕ, suc, List, [], ◌∷◌, length, Some, codes, decimal}
use Rattle.lot_base.specs.declared.auction_terms.Terms.{Terms}
use Rattle.clock.specs.Reports.{members}
use Rattle.settlement.specs.declared.outcome.AwardRow.{AwardRow}
use Rattle.two_way.specs.FloatHistories.{IsFloat}
use Rattle.two_way.specs.Histories.{TwoWayHistory}
use Rattle.two_way.specs.Standing.{downs_after, prices_of, steps_of, ups_after}
use Rattle.outcome_text.specs.Lines.{numerals, text_of}
use Rattle.outcome_text.specs.Plain.{bidder_lines, choice_lines, price_words}
use Rattle.house_run.specs.Markets.{IsMarketAt, market_bidders}
use Rattle.house_run.specs.Needs.{Needs, nothing_needed}
use Rattle.house_run.specs.Seen.{ShelfSeen}

abbrev pub float_needs : List ℕ → List ℕ → List ℕ → Needs
float_needs auction values start = record nothing_needed { auction = Some auction; values = Some values; start = Some start }

abbrev pub floated_words : Terms → List ℕ → List (List ℕ)
floated_words terms start = codes "floated" ∷ codes "goods" ∷ decimal (length terms.goods) ∷ codes "bidders" ∷ decimal terms.bidders ∷ codes "start" ∷ numerals start

-- the line of a clock: its steps up, its steps down, and its last prices
abbrev pub turn_words : ℕ → TwoWayHistory → List (List ℕ)
turn_words clock h =
    codes "clock" ∷ decimal clock ∷ codes "up" ∷ decimal (ups_after h (steps_of h)) ∷ codes "down" ∷ decimal (downs_after h (steps_of h)) ∷ codes "prices" ∷ numerals (prices_of h)

-- the lines of clocks that are numbered from here on, and of what their members choose
abbrev pub turn_lines : ℕ → ℕ → List TwoWayHistory → List (List (List ℕ)) → List (List (List ℕ))
turn_lines bidders clock [] choices = []
turn_lines bidders clock (h ∷ hs) [] = []
turn_lines bidders clock (h ∷ hs) (choice ∷ choices) = turn_words clock h ∷ choice_lines clock (members bidders clock) choice ++ turn_lines bidders (suc clock) hs choices

unfoldable pub float_text : Terms → List ℕ → List TwoWayHistory → List ℕ → List AwardRow → List (List (List ℕ)) → List ℕ
float_text terms start clocks prices rows choices =
    text_of (floated_words terms start ∷ price_words prices ∷ bidder_lines 1 rows ++ turn_lines terms.bidders 0 clocks choices)

-- The text is what the market of the two files floats to from these prices: an equilibrium, whose prices need not be the least, with the payments of
-- Vickrey, Clarke and Groves.
pub record FloatDone (auction values start : List ℕ) (shelf : ShelfSeen) (text : List ℕ) : Type 0 where
  pub terms : Terms
  pub valuations : List (List ℕ)
  pub market : IsMarketAt shelf auction values terms valuations
  pub clocks : List TwoWayHistory
  pub prices : List ℕ
  pub rows : List AwardRow
  pub choices : List (List (List ℕ))
  pub floats : IsFloat terms (market_bidders terms valuations) start clocks prices rows choices
  pub text_is : text ≡ float_text terms start clocks prices rows choices
