-- The numbers of an outcome, in the order in which its plain text has them.
use Rattle.std.specs.Prelude.{ℕ, suc, ℤ, pos, List, [], ◌∷◌, ◌++◌, length, map, Option, Some, None}
use Rattle.clock.specs.Reports.{members}
use Rattle.settlement.specs.declared.outcome.AwardRow.{AwardRow}
use Rattle.settlement.specs.declared.outcome.ClockRow.{ClockRow}
use Rattle.settlement.specs.declared.outcome.Outcome.{Outcome}

-- the prices of the goods, or the quantities of a bundle
abbrev pub naturals : List ℕ → List ℤ
naturals ns = map pos ns

-- those of a bidder: its number, its award, its debit, its credit and what it pays
abbrev pub award_numbers : ℕ → AwardRow → List ℤ
award_numbers bidder row = pos bidder ∷ naturals row.award ++ (row.debit ∷ row.credit ∷ row.pays ∷ [])

-- those of bidders that are numbered from here on
abbrev pub awards_numbers : ℕ → List AwardRow → List ℤ
awards_numbers bidder [] = []
awards_numbers bidder (row ∷ rows) = award_numbers bidder row ++ awards_numbers (suc bidder) rows

-- those of what a member of a clock chooses: the numbers of both, and the bundle
abbrev pub choice_numbers : ℕ → ℕ → List ℕ → List ℤ
choice_numbers clock bidder bundle = pos clock ∷ pos bidder ∷ naturals bundle

-- those of what the members of a clock choose
abbrev pub choices_numbers : ℕ → List ℕ → List (List ℕ) → List ℤ
choices_numbers clock [] bundles = []
choices_numbers clock (j ∷ js) [] = []
choices_numbers clock (j ∷ js) (bundle ∷ bundles) = choice_numbers clock j bundle ++ choices_numbers clock js bundles

-- those of a clock: its number, its steps, its prices and what its members choose
abbrev pub clock_numbers : ℕ → ℕ → ClockRow → List ℤ
clock_numbers bidders clock row = pos clock ∷ pos row.steps ∷ naturals row.prices ++ choices_numbers clock (members bidders clock) row.choices

-- those of clocks that are numbered from here on
abbrev pub clocks_numbers : ℕ → ℕ → List ClockRow → List ℤ
clocks_numbers bidders clock [] = []
clocks_numbers bidders clock (row ∷ rows) = clock_numbers bidders clock row ++ clocks_numbers bidders (suc clock) rows

-- those of the opening prices, where the outcome shows them
abbrev pub opening_numbers : Option (List ℕ) → List ℤ
opening_numbers None = []
opening_numbers (Some opening) = naturals opening

unfoldable pub outcome_numbers : Outcome → List ℤ
outcome_numbers o =
    pos (length o.prices) ∷ pos (length o.rows) ∷ naturals o.prices ++ (opening_numbers o.opening ++ (awards_numbers 1 o.rows ++ clocks_numbers (length o.rows) 0 o.clocks))
