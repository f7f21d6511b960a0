-- The reports of a clock, read as a whole list by the names in it. The clock of all bidders has the number 0, and clock c has
-- all bidders but c. A report names a round, from 1, and a bidder, from 1. Where several reports have one name, the first
-- counts.
use Rattle.std.specs.Prelude.{ℕ, ◌+◌, ◌-◌, ◌*◌, length, ◌==◌, Bool, ◌&&◌, List, [], ◌++◌, ◌∷◌, map, find, Option, is_some, unwrap_or, option_map}
use Rattle.std.specs.List.{concat, list_all, range_with_len}
use Rattle.lot_base.specs.Economy.{without}
use Rattle.lot_base.specs.declared.auction_terms.Terms.{Terms}
use Rattle.demand_set.specs.declared.reports.Report.{Report}
use Rattle.lot_base.specs.declared.supply.GoodSet.{GoodSet}

-- a clock's terms, its number, and the reports that were applied, in order
pub record ClockHistory : Type 0 where
  pub terms : Terms
  pub number : ℕ
  pub reports : List Report

-- A clock as its callers see it: its history, and for how many more reports and quantities it has room, without taking memory.
pub record ClockOf : Type 0 where
  pub history : ClockHistory
  pub spare_reports : ℕ
  pub spare_quantities : ℕ

-- the histories of clocks
abbrev pub histories : List ClockOf → List ClockHistory
histories clocks = map (λ c. c.history) clocks

-- the history with one report more
abbrev pub with_report : ClockHistory → Report → ClockHistory
with_report c r = record c { reports = c.reports ++ r ∷ [] }

-- The clock with one report more, which takes what it needs from the room, as far as there is any.
abbrev pub applied : ClockOf → Report → ClockOf
applied k r = record { history = with_report k.history r; spare_reports = k.spare_reports - 1; spare_quantities = k.spare_quantities - length (concat r.demand) }

-- the sets as numbers
abbrev pub set_numbers : List GoodSet → List ℕ
set_numbers sets = map (λ s. s.0) sets

-- all bidders, and the members of a clock, in order
abbrev pub all_bidders : ℕ → List ℕ
all_bidders bidders = range_with_len 1 bidders

abbrev pub members : ℕ → ℕ → List ℕ
members bidders clock = without clock (all_bidders bidders)

abbrev pub members_of : ClockHistory → List ℕ
members_of c = members c.terms.bidders c.number

-- the most reports of a legal history: one of each member to a round; each step raises a price, and none passes the ceiling
abbrev pub most_reports : Terms → ℕ → ℕ
most_reports terms number = (length terms.goods * terms.ceiling + 1) * length (members terms.bidders number)

-- the report is of this bidder in this round
abbrev pub is_named : ℕ → ℕ → Report → Bool
is_named round bidder report = (report.round == round) && (report.bidder == bidder)

-- the demand of a bidder in a round, if it has reported one
abbrev pub demand_in : List Report → ℕ → ℕ → Option (List (List ℕ))
demand_in reports round bidder = option_map (λ r. r.demand) (find (is_named round bidder) reports)

-- the same as a list of bundles, which is empty where there is no report
abbrev pub demands_in : List Report → ℕ → ℕ → List (List ℕ)
demands_in reports round bidder = unwrap_or (demand_in reports round bidder) []

-- each of the bidders has a report in the round
abbrev pub is_full : List ℕ → List Report → ℕ → Bool
is_full bidders reports round = list_all (λ j. is_some (demand_in reports round j)) bidders
