-- The reports of a clock as they are kept, packed: a list of quantities, and a place for each report.
use Rattle.std.specs.Prelude.{◌≡◌, ◌≤◌, ◌<◌, ◌+◌, ◌-◌, ◌*◌, ◌^◌, ℕ, List, [], ◌∷◌, ◌++◌, length, take, drop, ◌==◌, find, option_map, unwrap_or}
use Rattle.std.specs.List.{AllByRecursion, concat}
use Rattle.demand_set.specs.Reading.{groups}
use Rattle.demand_set.specs.declared.reports.Report.{Report}
use Rattle.lot_base.specs.declared.supply.GoodSet.{GoodSet}
use Rattle.clock.specs.declared.kept_quantities.Place.{Place}

-- the quantities at a place, and the report
abbrev pub quantities_of : ℕ → List ℕ → Place → List ℕ
quantities_of goods quantities p = take (p.count * goods) (drop p.start quantities)

abbrev pub report_at : ℕ → List ℕ → Place → Report
report_at goods quantities p = record { bidder = p.bidder; round = p.round; demand = groups p.count goods (drop p.start quantities) }

abbrev pub history_of : ℕ → List ℕ → List Place → List Report
history_of goods quantities [] = []
history_of goods quantities (p ∷ places) = report_at goods quantities p ∷ history_of goods quantities places

-- the quantities of the place, and of each place, are there
abbrev pub Fits : ℕ → List ℕ → Place → Type 0
Fits goods quantities p = p.start + p.count * goods ≤ length quantities

abbrev pub AllFit : ℕ → List ℕ → List Place → Type 0
AllFit goods quantities places = AllByRecursion (Fits goods quantities) places

-- some quantities stand among others from a place on
pub record IsSharedAt (quantities more : List ℕ) (start : ℕ) : Type 0 where
  pub inside : start + length more ≤ length quantities
  pub same : take (length more) (drop start quantities) ≡ more

-- some quantities stand there now, the old ones stay, and no more were added than these
pub record IsStoredAt (old new : List ℕ) (start : ℕ) (more : List ℕ) : Type 0 where
  pub front : take (length old) new ≡ old
  pub few : length new ≤ length old + length more
  pub stored : IsSharedAt new more start

-- what contracts see of the packed reports: the number of goods, the reports in order, the step set of each step, and for how many
-- more reports and quantities there is room
pub record PastOf : Type 0 where
  pub goods : ℕ
  pub reports : List Report
  pub sets : List GoodSet
  pub spare_reports : ℕ
  pub spare_quantities : ℕ

abbrev pub with_spare : PastOf → ℕ → ℕ → PastOf
with_spare p reports quantities = record p { spare_reports = reports; spare_quantities = quantities }

abbrev pub pushed : PastOf → Report → PastOf
pushed p r = record p { reports = p.reports ++ r ∷ []; spare_reports = p.spare_reports - 1; spare_quantities = p.spare_quantities - length (concat r.demand) }

abbrev pub raised_on : PastOf → GoodSet → PastOf
raised_on p set = record p { sets = p.sets ++ set ∷ [] }

-- what a bidder reported first among some reports, in another round; and the packed reports with more of this kind, which take no room
-- of quantities
abbrev pub again_among : List Report → ℕ → ℕ → Report
again_among reports round j = record { bidder = j; round = round; demand = unwrap_or (option_map (λ (r : Report). r.demand) (find (λ (r : Report). r.bidder == j) reports)) [] }

abbrev pub with_again : PastOf → List Report → PastOf
with_again p more = record p { reports = p.reports ++ more; spare_reports = p.spare_reports - length more }

-- How the packed reports are kept.
pub record IsPast (goods : ℕ) (quantities : List ℕ) (places : List Place) (spare_reports spare_quantities quantities_room places_room sets_room : ℕ) : Type 0 where
  -- there are goods
  pub some_good : 1 ≤ goods
  -- but at most six
  pub few_goods : goods ≤ 6
  -- the quantities of each report are there
  pub fit : AllFit goods quantities places
  -- the spare quantities have room, and so have the spare reports, and a step set for each report
  pub quantities_in : length quantities + spare_quantities ≤ quantities_room
  pub places_in : length places + spare_reports ≤ places_room
  pub sets_in : length places + spare_reports ≤ sets_room
  -- each start is a number of 32 bits
  pub starts : length quantities + spare_quantities < 2 ^ 32
