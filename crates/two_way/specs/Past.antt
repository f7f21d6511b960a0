-- The reports of a two-way clock as they are kept: a list of demands, and for each report the place of its demand in it.
use Rattle.std.specs.Prelude.{◌≡◌, ◌<◌, ℕ, List, [], ◌∷◌, ◌++◌, map, take, length, slice_index_or}
use Rattle.std.specs.List.{AllByRecursion}
use Rattle.lot_base.specs.Demands.{IsTable, least}
use Rattle.demand_set.specs.declared.reports.Report.{Report}
use Rattle.two_way.specs.declared.past.Kept.{Kept}
use Rattle.two_way.specs.declared.past.Place.{Place}

-- what contracts see of the reports: the supply, and their list
pub record PastOf : Type 0 where
  pub goods : List ℕ
  pub reports : List Report

-- with one report more
abbrev pub with_report : PastOf → Report → PastOf
with_report p r = record p { reports = p.reports ++ r ∷ [] }

-- what stands where nothing is kept
abbrev pub nothing_kept : Kept
nothing_kept = record { demand = []; least = record { 0 = [] } }

abbrev pub report_at : List Kept → Place → Report
report_at demands p = record { bidder = p.bidder; round = p.round; demand = (slice_index_or demands p.number nothing_kept).demand }

abbrev pub reports_of : List Kept → List Place → List Report
reports_of demands places = map (report_at demands) places

-- the demand of each report is there
abbrev pub AllThere : List Kept → List Place → Type 0
AllThere demands places = AllByRecursion (λ (p : Place). p.number < length demands) places

-- each table is that of its demand, over so many goods
abbrev pub AreTabled : ℕ → List Kept → Type 0
AreTabled goods demands = AllByRecursion (λ (k : Kept). IsTable goods (least k.demand) k.least.0) demands

-- a demand is kept at a place now, and the old ones are where they were
pub record IsKeptAt (old new : List Kept) (number : ℕ) (demand : List (List ℕ)) : Type 0 where
  pub front : take (length old) new ≡ old
  pub inside : number < length new
  pub kept : (slice_index_or new number nothing_kept).demand ≡ demand
