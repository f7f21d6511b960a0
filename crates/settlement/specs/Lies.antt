-- A worked lie. It is the auction of three bidders for one good in two units, to whom no, one and two units are worth 0, 10 and 14, then
-- 0, 8 and 11, then 0, 6 and 7. On the clock of all, the third reports as if a first unit were worth 9 to it.
use Rattle.std.specs.Prelude.{◌≡◌, ◌==◌, if◌then◌else◌, ℕ, List, [], ◌∷◌, ◌++◌, ℤ, pos, negsuc, None}
use Rattle.lot_base.specs.RowsTables.{marginals, three_bidders}
use Rattle.lot_base.specs.declared.auction_terms.Terms.{Terms}
use Rattle.demand_set.specs.declared.reports.Report.{Report}
use Rattle.clock.specs.Reports.{ClockHistory}
use Rattle.settlement.specs.Settling.{IsOutcomeOf}
use Rattle.settlement.specs.Examples.{clock_with, reports_without_1, reports_without_2, reports_without_3, first_clocks, first_outcome}
use Rattle.settlement.specs.declared.outcome.AwardRow.{AwardRow}
use Rattle.settlement.specs.declared.outcome.ClockRow.{ClockRow}
use Rattle.settlement.specs.declared.outcome.Outcome.{Outcome}
use Rattle.settlement.specs.declared.outcome.Settlement.TheVariants.{Settled}
use Rattle.settlement.specs.Incentives.{IsAmongTruthful, TellsTruth, gain_of}

-- a bundle of so many units, and the demands of the example
abbrev units : ℕ → List ℕ
units n = n ∷ []

abbrev two : List (List ℕ)
two = units 2 ∷ []

abbrev one_or_two : List (List ℕ)
one_or_two = units 1 ∷ units 2 ∷ []

abbrev one : List (List ℕ)
one = units 1 ∷ []

abbrev none_or_one : List (List ℕ)
none_or_one = units 0 ∷ units 1 ∷ []

-- the reports of the three in a round, and of all rounds from one on
abbrev in_round : ℕ → List (List ℕ) → List (List ℕ) → List (List ℕ) → List Report
in_round round a b c =
    record { bidder = 1; round = round; demand = a } ∷ record { bidder = 2; round = round; demand = b } ∷ record { bidder = 3; round = round; demand = c } ∷ []

abbrev pub lied_of_all : List Report
lied_of_all =
    in_round 1 two two two
    ++ (in_round 2 two two one_or_two
    ++ (in_round 3 two two one
    ++ (in_round 4 two one_or_two one
    ++ (in_round 5 one_or_two one one
    ++ (in_round 6 one one one
    ++ (in_round 7 one one one
    ++ (in_round 8 one one one
    ++ in_round 9 one none_or_one one)))))))

-- the other clocks are those of the auction without the lie
abbrev pub lied_clocks : Terms → List ClockHistory
lied_clocks terms =
    clock_with terms 0 lied_of_all ∷ clock_with terms 1 reports_without_1 ∷ clock_with terms 2 reports_without_2 ∷ clock_with terms 3 reports_without_3 ∷ []

-- who reports so: the third as if its units were worth 9 and 10
abbrev pub lying_bidders : ℕ → List ℕ → ℤ
lying_bidders j = if j == 3 then marginals 9 1 else three_bidders j

-- What they settle: a price of 8; the first bidder and the third get a unit each and pay 8, the second gets nothing.
abbrev award_row : ℕ → ℤ → ℤ → ℤ → AwardRow
award_row n debit credit pays = record { award = units n; debit = debit; credit = credit; pays = pays }

abbrev clock_row : ℕ → ℕ → List (List ℕ) → ClockRow
clock_row steps price choices = record { steps = steps; prices = price ∷ []; choices = choices }

abbrev pub lied_outcome : Outcome
lied_outcome = record {
  prices = 8 ∷ [];
  opening = None;
  rows = award_row 1 (negsuc 3) (negsuc 3) (pos 8) ∷ award_row 0 (negsuc 4) (negsuc 4) (pos 0) ∷ award_row 1 (negsuc 6) (negsuc 6) (pos 8) ∷ [];
  clocks =
      clock_row 8 8 (units 1 ∷ units 0 ∷ units 1 ∷ [])
      ∷ clock_row 3 3 (units 1 ∷ units 1 ∷ [])
      ∷ clock_row 4 4 (units 1 ∷ units 1 ∷ [])
      ∷ clock_row 4 4 (units 1 ∷ units 1 ∷ [])
      ∷ [];
}

-- The third bidder is among truthful others and lies. It pays 8 for what is worth 6 to it, and would gain nothing and lose nothing by the
-- truth.
pub record IsLieExample (terms : Terms) : Type 0 where
  pub among : IsAmongTruthful 3 three_bidders terms (lied_clocks terms)
  pub lies : TellsTruth three_bidders (lied_clocks terms) → ⊥
  pub outcome : IsOutcomeOf (lied_clocks terms) (Settled lied_outcome)
  pub loses : gain_of three_bidders terms lied_outcome 3 ≡ negsuc 1
  pub true_among : IsAmongTruthful 3 three_bidders terms (first_clocks terms)
  pub truthful : TellsTruth three_bidders (first_clocks terms)
  pub true_outcome : IsOutcomeOf (first_clocks terms) (Settled first_outcome)
  pub true_gain : gain_of three_bidders terms first_outcome 3 ≡ pos 0
