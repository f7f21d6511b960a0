-- The reports of a two-way clock. They are read as those of a clock are; the prices at which it starts are its own.
use Rattle.std.specs.Prelude.{ℕ, ◌<◌, ◌≤◌, ◌⊎◌, List, ◌++◌, [], ◌∷◌, length}
use Rattle.std.specs.List.{AllByRecursion}
use Rattle.lot_base.specs.Goods.{AtMost, at}
use Rattle.lot_base.specs.declared.auction_terms.Terms.{Terms}
use Rattle.demand_set.specs.declared.reports.Report.{Report}
use Rattle.clock.specs.Reports.{ClockHistory, members}

-- a two-way clock's terms, its number, its start prices, and the reports that were applied, in order
pub record TwoWayHistory : Type 0 where
  pub terms : Terms
  pub number : ℕ
  pub start : List ℕ
  pub reports : List Report

-- its terms, number and reports alone
abbrev pub as_clock : TwoWayHistory → ClockHistory
as_clock h = record { terms = h.terms; number = h.number; reports = h.reports }

abbrev pub members_in : TwoWayHistory → List ℕ
members_in h = members h.terms.bidders h.number

-- the history with one report more
abbrev pub told : TwoWayHistory → Report → TwoWayHistory
told h r = record h { reports = h.reports ++ r ∷ [] }

-- prices from which a two-way clock of these terms may start: none below its opening, and each below the ceiling
pub record IsStart (terms : Terms) (start : List ℕ) : Type 0 where
  pub above : AtMost terms.opening start
  pub below : AllByRecursion (λ price. price < terms.ceiling) start

-- the price of a good is below the opening, or not below the ceiling
abbrev pub IsOutside : Terms → List ℕ → ℕ → Type 0
IsOutside terms start good = (at start good < at terms.opening good) ⊎ (terms.ceiling ≤ at start good)

-- the first good for which it is so
pub record IsFirstOutside (terms : Terms) (start : List ℕ) (good : ℕ) : Type 0 where
  pub is_good : good < length terms.goods
  pub outside : IsOutside terms start good
  pub before : (k : ℕ) → k < good → IsOutside terms start k → ⊥
