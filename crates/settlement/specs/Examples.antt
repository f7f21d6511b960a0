-- Three worked auctions, whole, of one good in two units with a ceiling of 100. Written out are the reports of all clocks, each the
-- demand set at the price of its round, and what they settle.
use Rattle.std.specs.Prelude.{◌≡◌, ℕ, ◌+◌, List, [], ◌∷◌, ◌++◌, ℤ, pos, negsuc, Some, None}
use Rattle.std.specs.List.{AllByRecursion}
use Rattle.lot_base.specs.Economy.{AllBelowCeiling}
use Rattle.lot_base.specs.RowsTables.{three_bidders, unequal_bidders}
use Rattle.lot_base.specs.declared.auction_terms.Terms.{Terms}
use Rattle.demand_set.specs.declared.reports.Report.{Report}
use Rattle.clock.specs.Reports.{ClockHistory, all_bidders}
use Rattle.clock.specs.Judging.{IsLegal}
use Rattle.settlement.specs.Clocks.{AreClocksOf}
use Rattle.settlement.specs.Settling.{IsOutcomeOf}
use Rattle.settlement.specs.Efficient.{ExplainsAll, IsEfficient}
use Rattle.settlement.specs.declared.outcome.AwardRow.{AwardRow}
use Rattle.settlement.specs.declared.outcome.ClockRow.{ClockRow}
use Rattle.settlement.specs.declared.outcome.Outcome.{Outcome}
use Rattle.settlement.specs.declared.outcome.Settlement.{Settlement}
use Rattle.settlement.specs.declared.outcome.Settlement.TheVariants.{Settled}

-- a bundle of so many units, and the demands of the example
abbrev units : ℕ → List ℕ
units n = n ∷ []

abbrev two : List (List ℕ)
two = units 2 ∷ []

abbrev one_or_two : List (List ℕ)
one_or_two = units 1 ∷ units 2 ∷ []

abbrev one : List (List ℕ)
one = units 1 ∷ []

abbrev none : List (List ℕ)
none = units 0 ∷ []

abbrev none_or_one : List (List ℕ)
none_or_one = units 0 ∷ units 1 ∷ []

-- the reports of a round: what its bidders demand, in order
abbrev in_round : ℕ → List ℕ → List (List (List ℕ)) → List Report
in_round round [] demands = []
in_round round (j ∷ js) [] = []
in_round round (j ∷ js) (d ∷ demands) = record { bidder = j; round = round; demand = d } ∷ in_round round js demands

-- the reports of all rounds from one on
abbrev from_round : ℕ → List ℕ → List (List (List (List ℕ))) → List Report
from_round round js [] = []
from_round round js (demands ∷ rest) = in_round round js demands ++ from_round (round + 1) js rest

-- The first auction has three bidders, to whom no, one and two units are worth 0, 10 and 14, then 0, 8 and 11, then 0, 6 and 7. These are
-- the reports of each of its four clocks, round by round: at price 0, then 1, and so on.
abbrev pub reports_of_all : List Report
reports_of_all = from_round 1 (1 ∷ 2 ∷ 3 ∷ [])
    ((two ∷ two ∷ two ∷ [])
    ∷ (two ∷ two ∷ one_or_two ∷ [])
    ∷ (two ∷ two ∷ one ∷ [])
    ∷ (two ∷ one_or_two ∷ one ∷ [])
    ∷ (one_or_two ∷ one ∷ one ∷ [])
    ∷ (one ∷ one ∷ one ∷ [])
    ∷ (one ∷ one ∷ none_or_one ∷ [])
    ∷ [])

abbrev pub reports_without_1 : List Report
reports_without_1 = from_round 1 (2 ∷ 3 ∷ [])
    ((two ∷ two ∷ []) ∷ (two ∷ one_or_two ∷ []) ∷ (two ∷ one ∷ []) ∷ (one_or_two ∷ one ∷ []) ∷ [])

abbrev pub reports_without_2 : List Report
reports_without_2 = from_round 1 (1 ∷ 3 ∷ [])
    ((two ∷ two ∷ []) ∷ (two ∷ one_or_two ∷ []) ∷ (two ∷ one ∷ []) ∷ (two ∷ one ∷ []) ∷ (one_or_two ∷ one ∷ []) ∷ [])

abbrev pub reports_without_3 : List Report
reports_without_3 = from_round 1 (1 ∷ 2 ∷ [])
    ((two ∷ two ∷ []) ∷ (two ∷ two ∷ []) ∷ (two ∷ two ∷ []) ∷ (two ∷ one_or_two ∷ []) ∷ (one_or_two ∷ one ∷ []) ∷ [])

-- a clock on these terms
abbrev pub clock_with : Terms → ℕ → List Report → ClockHistory
clock_with terms number reports = record { terms = terms; number = number; reports = reports }

-- the four clocks
abbrev pub first_clocks : Terms → List ClockHistory
first_clocks terms =
    clock_with terms 0 reports_of_all ∷ clock_with terms 1 reports_without_1 ∷ clock_with terms 2 reports_without_2 ∷ clock_with terms 3 reports_without_3 ∷ []

-- What they settle: a price of 6; the first two bidders get a unit each and pay 6, the third gets nothing.
abbrev award_row : ℕ → ℤ → ℤ → ℤ → AwardRow
award_row n debit credit pays = record { award = units n; debit = debit; credit = credit; pays = pays }

abbrev clock_row : ℕ → ℕ → List (List ℕ) → ClockRow
clock_row steps price choices = record { steps = steps; prices = price ∷ []; choices = choices }

abbrev pub first_outcome : Outcome
first_outcome = record {
  prices = 6 ∷ [];
  opening = None;
  rows = award_row 1 (negsuc 3) (negsuc 3) (pos 6) ∷ award_row 1 (negsuc 4) (negsuc 4) (pos 6) ∷ award_row 0 (negsuc 6) (negsuc 6) (pos 0) ∷ [];
  clocks =
      clock_row 6 6 (units 1 ∷ units 1 ∷ units 0 ∷ [])
      ∷ clock_row 3 3 (units 1 ∷ units 1 ∷ [])
      ∷ clock_row 4 4 (units 1 ∷ units 1 ∷ [])
      ∷ clock_row 4 4 (units 1 ∷ units 1 ∷ [])
      ∷ [];
}

-- The clocks are an auction on these terms, of legal histories, which the valuations explain, with a ceiling above all values. They
-- settle this outcome and no other, and it is efficient.
pub record IsWorked (u : ℕ → List ℕ → ℤ) (terms : Terms) (clocks : List ClockHistory) (o : Outcome) : Type 0 where
  pub clocks_are : AreClocksOf terms clocks
  pub legal : AllByRecursion IsLegal clocks
  pub explained : ExplainsAll u clocks
  pub below : AllBelowCeiling terms.goods u terms.ceiling (all_bidders terms.bidders)
  pub outcome : IsOutcomeOf clocks (Settled o)
  pub only : (s : Settlement) → IsOutcomeOf clocks s → s ≡ Settled o
  pub efficient : IsEfficient u terms o

-- the terms of the first auction, and its clocks and outcome
pub record IsFirstExample (terms : Terms) : Type 0 where
  pub goods : terms.goods ≡ 2 ∷ []
  pub bidders : terms.bidders ≡ 3
  pub ceiling : terms.ceiling ≡ 100
  pub version : terms.version ≡ 1
  pub opening : terms.opening ≡ 0 ∷ []
  pub worked : IsWorked three_bidders terms (first_clocks terms) first_outcome

-- A second auction, of two bidders, to whom no, one and two units are worth 0, 10 and 19, then 0, 8 and 11. At a price of 8 the first one
-- gets both units. It is credited 5, and pays 11.
abbrev pub reports_of_both : List Report
reports_of_both = from_round 1 (1 ∷ 2 ∷ [])
    ((two ∷ two ∷ []) ∷ (two ∷ two ∷ []) ∷ (two ∷ two ∷ []) ∷ (two ∷ one_or_two ∷ [])
    ∷ (two ∷ one ∷ []) ∷ (two ∷ one ∷ []) ∷ (two ∷ one ∷ []) ∷ (two ∷ one ∷ []) ∷ (two ∷ none_or_one ∷ []) ∷ [])

abbrev pub reports_of_one : ℕ → List Report
reports_of_one j = from_round 1 (j ∷ []) ((two ∷ []) ∷ [])

abbrev pub second_clocks : Terms → List ClockHistory
second_clocks terms = clock_with terms 0 reports_of_both ∷ clock_with terms 1 (reports_of_one 2) ∷ clock_with terms 2 (reports_of_one 1) ∷ []

-- the outcome where the first bidder pays so much
abbrev pub second_outcome_at : ℤ → Outcome
second_outcome_at pays = record {
  prices = 8 ∷ [];
  opening = None;
  rows = award_row 2 (pos 0) (pos 5) pays ∷ award_row 0 (pos 0) (pos 0) (pos 0) ∷ [];
  clocks = clock_row 8 8 (units 2 ∷ units 0 ∷ []) ∷ clock_row 0 0 (units 2 ∷ []) ∷ clock_row 0 0 (units 2 ∷ []) ∷ [];
}

-- the terms of the second auction; with any other payment, as with the price of the two units, the outcome is not efficient
pub record IsSecondExample (terms : Terms) : Type 0 where
  pub goods : terms.goods ≡ 2 ∷ []
  pub bidders : terms.bidders ≡ 2
  pub ceiling : terms.ceiling ≡ 100
  pub version : terms.version ≡ 1
  pub opening : terms.opening ≡ 0 ∷ []
  pub worked : IsWorked unequal_bidders terms (second_clocks terms) (second_outcome_at (pos 11))
  pub only_payment : (pays : ℤ) → IsEfficient unequal_bidders terms (second_outcome_at pays) → pays ≡ pos 11

-- A third auction has the bidders of the first, and a reserve of 9. At 9 the first bidder wants a unit and the others none, so each clock
-- ends where it opened, and one unit stays unsold. Without the first bidder both units would be worth 9 to the seller; with it the seller
-- keeps one of them, so it pays 9.
abbrev pub third_clocks : Terms → List ClockHistory
third_clocks terms =
    clock_with terms 0 (from_round 1 (1 ∷ 2 ∷ 3 ∷ []) ((one ∷ none ∷ none ∷ []) ∷ []))
    ∷ clock_with terms 1 (from_round 1 (2 ∷ 3 ∷ []) ((none ∷ none ∷ []) ∷ []))
    ∷ clock_with terms 2 (from_round 1 (1 ∷ 3 ∷ []) ((one ∷ none ∷ []) ∷ []))
    ∷ clock_with terms 3 (from_round 1 (1 ∷ 2 ∷ []) ((one ∷ none ∷ []) ∷ []))
    ∷ []

-- the outcome where the first bidder pays so much
abbrev pub third_outcome_at : ℤ → Outcome
third_outcome_at pays = record {
  prices = 9 ∷ [];
  opening = Some (9 ∷ []);
  rows = award_row 1 (pos 0) (pos 0) pays ∷ award_row 0 (pos 0) (pos 0) (pos 0) ∷ award_row 0 (pos 0) (pos 0) (pos 0) ∷ [];
  clocks =
      clock_row 0 9 (units 1 ∷ units 0 ∷ units 0 ∷ [])
      ∷ clock_row 0 9 (units 0 ∷ units 0 ∷ [])
      ∷ clock_row 0 9 (units 1 ∷ units 0 ∷ [])
      ∷ clock_row 0 9 (units 1 ∷ units 0 ∷ [])
      ∷ [];
}

-- the terms of the third auction; with any other payment, as with one that forgets what the unsold units are worth to the seller, the
-- outcome is not efficient
pub record IsThirdExample (terms : Terms) : Type 0 where
  pub goods : terms.goods ≡ 2 ∷ []
  pub bidders : terms.bidders ≡ 3
  pub ceiling : terms.ceiling ≡ 100
  pub version : terms.version ≡ 2
  pub opening : terms.opening ≡ 9 ∷ []
  pub worked : IsWorked three_bidders terms (third_clocks terms) (third_outcome_at (pos 9))
  pub only_payment : (pays : ℤ) → IsEfficient three_bidders terms (third_outcome_at pays) → pays ≡ pos 9
