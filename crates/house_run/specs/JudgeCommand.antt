-- The command `judge AUCTION JOURNALS BIDDER`: whether one valuation explains all that a bidder has reported. The text is a table of its values,
--
--     rational bidder B bundles M
--     value X.. U                          for each bundle within the supply, in lexicographic order
--
-- where the empty bundle has the value 0; or a negative cycle of links, which shows that there is no such valuation:
--
--     irrational bidder B links L
--     clock C round R x X.. y Y..          for each link: the bidder demanded X.. and not Y.., or no more, in that round of that clock
use Rattle.std.specs.Prelude.{◌≡◌, ◌-◌, ◌++◌, ℕ, ℤ, List, [], ◌∷◌, length, map, slice_index_or, Some, codes, decimal}
use Rattle.std.specs.Fmt.{signed_decimal}
use Rattle.lot_base.specs.Box.{box}
use Rattle.lot_base.specs.Goods.{box_size}
use Rattle.lot_base.specs.declared.auction_terms.Terms.{Terms}
use Rattle.clock.specs.Reports.{ClockHistory}
use Rattle.rationale.specs.Decisions.{IsDecision}
use Rattle.rationale.specs.declared.deciding.Decision.{Decision}
use Rattle.rationale.specs.declared.deciding.Decision.TheVariants.{Rational, Cycle}
use Rattle.rationale.specs.declared.links.Link.{Link}
use Rattle.observed_demand.specs.Reported.{observations_of, places_of}
use Rattle.observed_demand.specs.declared.observing.Place.{Place}
use Rattle.outcome_text.specs.Lines.{numerals, text_of}
use Rattle.house_run.specs.Journals.{AreHistories}
use Rattle.house_run.specs.Needs.{Needs, nothing_needed}
use Rattle.house_run.specs.Seen.{ShelfSeen}

abbrev pub judge_needs : List ℕ → List ℕ → ℕ → Needs
judge_needs auction journals bidder = record nothing_needed { auction = Some auction; journals = Some journals; bidder = Some bidder }

-- the line of a bundle's value
abbrev pub value_words : List ℕ → ℤ → List (List ℕ)
value_words x value = codes "value" ∷ numerals x ++ (signed_decimal value ∷ [])

-- the lines of bundles, each with its value
abbrev pub value_lines : List (List ℕ) → List ℤ → List (List (List ℕ))
value_lines [] values = []
value_lines (x ∷ xs) [] = []
value_lines (x ∷ xs) (value ∷ values) = value_words x value ∷ value_lines xs values

-- the line of a link, by the place of its observation
abbrev pub link_words : Place → Link → List (List ℕ)
link_words place link =
    codes "clock" ∷ decimal place.clock ∷ codes "round" ∷ decimal place.round ∷ codes "x" ∷ numerals link.x ++ (codes "y" ∷ numerals link.y)

-- the place of the observation of a link, which are numbered from 1
abbrev pub place_of : List Place → Link → Place
place_of places link = slice_index_or places (link.observation - 1) (record { clock = 0; round = 0 })

abbrev pub link_lines : List Place → List Link → List (List (List ℕ))
link_lines places links = map (λ link. link_words (place_of places link) link) links

-- the lines of what is decided of a bidder whose observations have these places
abbrev pub decision_lines : ℕ → List ℕ → List Place → Decision → List (List (List ℕ))
decision_lines bidder supply places (Rational values) =
    (codes "rational" ∷ codes "bidder" ∷ decimal bidder ∷ codes "bundles" ∷ decimal (box_size supply) ∷ []) ∷ value_lines (box supply) values
decision_lines bidder supply places (Cycle links) =
    (codes "irrational" ∷ codes "bidder" ∷ decimal bidder ∷ codes "links" ∷ decimal (length links) ∷ []) ∷ link_lines places links

-- The text tells a decision of all observations of the bidder. A table that is told is a valuation whose demand sets are all that the bidder has
-- reported, and a cycle shows that there is none.
pub record IsJudgedText (terms : Terms) (histories : List ClockHistory) (bidder : ℕ) (text : List ℕ) : Type 0 where
  pub decision : Decision
  pub decides : IsDecision terms.goods (observations_of bidder histories) decision
  pub text_is : text ≡ text_of (decision_lines bidder terms.goods (places_of bidder histories) decision)

-- the text judges the bidder by the journals of all clocks
pub record JudgeDone (auction journals : List ℕ) (bidder : ℕ) (shelf : ShelfSeen) (text : List ℕ) : Type 0 where
  pub terms : Terms
  pub histories : List ClockHistory
  pub are : AreHistories shelf auction journals terms histories
  pub told : IsJudgedText terms histories bidder text
