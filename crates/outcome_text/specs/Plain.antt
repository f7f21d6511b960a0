-- The plain text of an outcome:
--
--     settled goods K bidders N
--     prices P..
--     opening P..                                     where the seller has named opening prices
--     bidder I award X.. debit D credit E pays M      for each bidder, from 1
--     clock C steps T prices P..                      for each clock, from 0
--     choice C J X..                                  after its clock, for each member in order
--
-- P.. are the prices of the goods and X.. the quantities of a bundle. Numbers have decimal digits without a leading zero, and
-- one below 0 has a minus sign in front.
use Rattle.std.specs.Prelude.{ℕ, ℤ, suc, List, [], ◌∷◌, ◌++◌, length, codes, decimal, Option, Some, None}
use Rattle.std.specs.Fmt.{signed_decimal}
use Rattle.clock.specs.Reports.{members}
use Rattle.settlement.specs.declared.outcome.AwardRow.{AwardRow}
use Rattle.settlement.specs.declared.outcome.ClockRow.{ClockRow}
use Rattle.settlement.specs.declared.outcome.Outcome.{Outcome}
use Rattle.outcome_text.specs.Lines.{text_of, numerals}

-- the first line
abbrev pub head_words : ℕ → ℕ → List (List ℕ)
head_words goods bidders = codes "settled" ∷ codes "goods" ∷ decimal goods ∷ codes "bidders" ∷ decimal bidders ∷ []

-- the line of the prices
abbrev pub price_words : List ℕ → List (List ℕ)
price_words prices = codes "prices" ∷ numerals prices

-- the line of the opening prices, where the outcome shows them
abbrev pub opening_lines : Option (List ℕ) → List (List (List ℕ))
opening_lines None = []
opening_lines (Some opening) = (codes "opening" ∷ numerals opening) ∷ []

-- the line of a bidder, by what it is awarded, its debit, its credit and what it pays
abbrev pub award_words : ℕ → List ℕ → ℤ → ℤ → ℤ → List (List ℕ)
award_words bidder award debit credit pays =
    codes "bidder" ∷ decimal bidder ∷ codes "award" ∷ numerals award ++
    (codes "debit" ∷ signed_decimal debit ∷ codes "credit" ∷ signed_decimal credit ∷ codes "pays" ∷ signed_decimal pays ∷ [])

-- the same, by the row of the bidder
abbrev pub bidder_words : ℕ → AwardRow → List (List ℕ)
bidder_words bidder row = award_words bidder row.award row.debit row.credit row.pays

-- the lines of bidders that are numbered from here on
abbrev pub bidder_lines : ℕ → List AwardRow → List (List (List ℕ))
bidder_lines bidder [] = []
bidder_lines bidder (row ∷ rows) = bidder_words bidder row ∷ bidder_lines (suc bidder) rows

-- the line of what a member of a clock chooses
abbrev pub choice_words : ℕ → ℕ → List ℕ → List (List ℕ)
choice_words clock member bundle = codes "choice" ∷ decimal clock ∷ decimal member ∷ numerals bundle

-- the lines of what the members of a clock choose
abbrev pub choice_lines : ℕ → List ℕ → List (List ℕ) → List (List (List ℕ))
choice_lines clock [] bundles = []
choice_lines clock (member ∷ members) [] = []
choice_lines clock (member ∷ members) (bundle ∷ bundles) = choice_words clock member bundle ∷ choice_lines clock members bundles

-- the line of a clock
abbrev pub clock_words : ℕ → ClockRow → List (List ℕ)
clock_words clock row = codes "clock" ∷ decimal clock ∷ codes "steps" ∷ decimal row.steps ∷ codes "prices" ∷ numerals row.prices

-- the lines of clocks that are numbered from here on
abbrev pub clock_lines : ℕ → ℕ → List ClockRow → List (List (List ℕ))
clock_lines bidders clock [] = []
clock_lines bidders clock (row ∷ rows) = clock_words clock row ∷ choice_lines clock (members bidders clock) row.choices ++ clock_lines bidders (suc clock) rows

-- all lines of an outcome, in order
abbrev pub outcome_lines : Outcome → List (List (List ℕ))
outcome_lines o =
    head_words (length o.prices) (length o.rows) ∷ price_words o.prices ∷ opening_lines o.opening ++ (bidder_lines 1 o.rows ++ clock_lines (length o.rows) 0 o.clocks)

unfoldable pub plain_text : Outcome → List ℕ
plain_text o = text_of (outcome_lines o)
