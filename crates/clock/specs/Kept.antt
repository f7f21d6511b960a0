-- What a clock keeps beside its reports: how it stands, what is known of the last or current round, and room.
use Rattle.std.specs.Prelude.{◌-◌, ◌≡◌, ◌≤◌, ◌<◌, ◌+◌, ◌*◌, ◌/◌, ◌^◌, ◌==◌, ℕ, Bool, true, false, List, [], length, take, drop, find, slice_get, slice_index_or, if◌then◌else◌, Option, Some, None, IsSome, IfSome, is_some, option_map, unwrap_or, ℤ, pos, negsuc, ◌-ℤ◌, ◌+ℤ◌, ◌≤ℤ◌}
use Rattle.std.specs.List.{AllByRecursion}
use Rattle.lot_base.specs.declared.limits.TheConstants.{MOST_STEPS}
use Rattle.lot_base.specs.declared.phases.Phase.{Phase}
use Rattle.lot_base.specs.declared.tables.LeastTable.{LeastTable}
use Rattle.demand_set.specs.declared.reports.Report.{Report}
use Rattle.lot_base.specs.Economy.{total_units, without}
use Rattle.lot_base.specs.Demands.{least}
use Rattle.lot_base.specs.Steps.{excess}
use Rattle.lyapunov.specs.Excesses.{entry}
use Rattle.credit_book.specs.Account.{Sums, sum_without, least_in}
use Rattle.clock.specs.Reports.{ClockHistory, set_numbers, members_of, demand_in, demands_in}
use Rattle.clock.specs.Accounts.{account_after}
use Rattle.clock.specs.Standing.{steps_of, last_round, phase_after, prices_after, sets_of}
use Rattle.clock.specs.Judging.{IsLegal, is_member}
use Rattle.clock.specs.Past.{PastOf}

-- how many of the bidders have no report in the round
abbrev pub missing_count : List ℕ → List Report → ℕ → ℕ
missing_count bidders reports round = total_units (λ j. if is_some (demand_in reports round j) then 0 else 1) bidders

-- how many reports come before those of the round after so many steps: one of each member to a round
abbrev pub reports_before : ClockHistory → ℕ → ℕ
reports_before c steps = steps * length (members_of c)

-- How the clock stands after its steps, the reports of the last or current round beginning at a place.
pub record HasStanding (c : ClockHistory) (current steps : ℕ) (phase : Phase) (prices : List ℕ) (account : Sums) : Type 0 where
  -- the history is legal
  pub legal : IsLegal c
  -- so many steps were made
  pub steps_are : steps ≡ steps_of c
  pub few : steps ≤ MOST_STEPS
  -- the clock stands so, at these prices
  pub phase_is : phase ≡ phase_after c steps
  pub prices_are : prices ≡ prices_after c steps
  -- up to the place the reports are of earlier rounds, and from there on of the last or current one
  pub begins : current ≤ length c.reports
  pub past : AllByRecursion (λ (r : Report). r.round ≤ steps) (take current c.reports)
  pub present : AllByRecursion (λ (r : Report). r.round ≡ steps + 1) (drop current c.reports)
  -- the account is that of the steps
  pub account_steps : account.steps ≡ steps
  pub account_is : (bidder : ℕ) → sum_without account bidder ≡ account_after c (without bidder (members_of c)) steps

-- what a bidder demands in the round or, until it has reported in it, in the round before
abbrev pub standing_demands : ClockHistory → ℕ → ℕ → List (List ℕ)
standing_demands c round j = unwrap_or (demand_in c.reports round j) (demands_in c.reports (round - 1) j)

-- The tables of the members.
pub record KeepsTables (c : ClockHistory) (round : ℕ) (tables : List (Option LeastTable)) : Type 0 where
  -- there is one for each bidder number
  pub places : length tables ≡ 13
  -- that of a member is of its standing demand
  pub held : (j set : ℕ) → set < 2 ^ length c.terms.goods → is_member c j ≡ true → least_in (slice_index_or tables j None) set ≡ least (standing_demands c round j) set
  -- who is no member has none
  pub nobody : (j : ℕ) → is_member c j ≡ false → slice_index_or tables j None ≡ None
  -- there is nothing after the last set
  pub blank : (j set : ℕ) → 2 ^ length c.terms.goods ≤ set → least_in (slice_index_or tables j None) set ≡ 0

-- The running excess: entry E is the sum of the least quantities on E over the members' standing demands, less the supply of E.
pub record KeepsExcess (c : ClockHistory) (round : ℕ) (table : List ℤ) : Type 0 where
  pub entries : (set : ℕ) → set < 2 ^ length c.terms.goods → entry table set ≡ excess c.terms.goods (standing_demands c round) (members_of c) set
  pub others : (set : ℕ) → 2 ^ length c.terms.goods ≤ set → entry table set ≡ pos 0

-- What is kept of the round after so many steps, of which these are the reports.
pub record KeepsRound (c : ClockHistory) (present : List Report) (left steps : ℕ) (held : List (Option LeastTable)) (sums : List ℤ) : Type 0 where
  -- they come after those of the rounds before
  pub present_are : present ≡ drop (reports_before c steps) c.reports
  -- each report is of the round that its number has
  pub in_order : (i : ℕ) (r : Report) → slice_get c.reports i ≡ Some r → r.round ≡ i / length (members_of c) + 1
  -- each member has one report or is missing, and so many are missing
  pub counted : left + length present ≡ length (members_of c)
  pub missing : left ≡ missing_count (members_of c) c.reports (steps + 1)
  -- the tables and the excess of the standing demands
  pub tables : KeepsTables c (steps + 1) held
  pub excess : KeepsExcess c (steps + 1) sums

-- What a clock keeps.
pub record IsKept (c : ClockHistory) (past : PastOf) (left steps : ℕ) (phase : Phase) (prices : List ℕ) (tables : List (Option LeastTable)) (excess : List ℤ) (account : Sums) : Type 0 where
  -- it stands so
  pub standing : HasStanding c (reports_before c steps) steps phase prices account
  -- this is kept of the last or current round
  pub round : KeepsRound c (drop (reports_before c steps) c.reports) left steps tables excess
  -- the packed reports are those of the history, of its goods
  pub goods : past.goods ≡ length c.terms.goods
  -- the step set of each step is kept
  pub sets : set_numbers past.sets ≡ sets_of c steps

-- The latest demands of the bidders, and who has reported in the round, at the number of each.
pub record KeepsLatest (c : ClockHistory) (round : ℕ) (latest : List (Option (List (List ℕ)))) (reported : List Bool) : Type 0 where
  pub places : length latest ≡ 13
  pub seats : length reported ≡ 13
  -- who has reported, and nobody else, is marked, and its demand is kept
  pub marked : (j : ℕ) → slice_index_or reported j false ≡ is_some (demand_in c.reports round j)
  pub own : (j : ℕ) → is_some (demand_in c.reports round j) ≡ true → slice_index_or latest j None ≡ demand_in c.reports round j
  -- that of a member who has not is its demand in the round before
  pub earlier : (j : ℕ) → is_member c j ≡ true → demand_in c.reports round j ≡ None → slice_index_or latest j None ≡ demand_in c.reports (round - 1) j
  -- who is no member has none
  pub nobody : (j : ℕ) → is_member c j ≡ false → slice_index_or latest j None ≡ None

-- the demand of a bidder that is marked as one that has reported
abbrev pub demand_at : List (Option (List (List ℕ))) → List Bool → ℕ → Option (List (List ℕ))
demand_at latest reported j = if slice_index_or reported j false then slice_index_or latest j None else None

-- the demand that is told, or else the latest one
abbrev pub demand_or : Option (List (List ℕ)) → Option (List (List ℕ)) → List (List ℕ)
demand_or latest told = unwrap_or told (unwrap_or latest [])

-- the report of a bidder in the current round: of this demand, or of that of the round before
abbrev pub report_of : ClockHistory → ℕ → Option (List (List ℕ)) → Report
report_of c bidder told = record { bidder = bidder; round = last_round c; demand = unwrap_or told (demands_in c.reports (steps_of c) bidder) }

-- The first of some reports that is of the bidder has the latest demand.
pub record StandsAmong (reports : List Report) (from count bidder : ℕ) (latest : Option (List (List ℕ))) : Type 0 where
  pub inside : from + count ≤ length reports
  pub some : IsSome latest
  pub same : option_map (λ (r : Report). r.demand) (find (λ (r : Report). r.bidder == bidder) (take count (drop from reports))) ≡ latest

-- the excess leaves room for a small table in the place of the one that is kept
pub record HasRoomFor (kept : Option LeastTable) (table : List ℤ) : Type 0 where
  pub at_least : (set : ℕ) → negsuc 2046 ≤ℤ entry table set
  pub at_most : (set : ℕ) → entry table set ≤ℤ pos (22517 + least_in kept set)

-- the table is that of the demand
pub record HoldsTable (goods : List ℕ) (demand : List (List ℕ)) (kept : Option LeastTable) : Type 0 where
  pub held : (set : ℕ) → set < 2 ^ length goods → least_in kept set ≡ least demand set
  pub blank : (set : ℕ) → 2 ^ length goods ≤ set → least_in kept set ≡ 0

-- The table of a demand, if one is told, is put in the place of the one before, in what is kept and in the excess.
pub record CountsIn (goods : List ℕ) (told : Option (List (List ℕ))) (old new : Option LeastTable) (before after : List ℤ) : Type 0 where
  pub told_is : IfSome told (λ demand. HoldsTable goods demand new)
  pub untold : told ≡ None → new ≡ old
  pub moved : (set : ℕ) → set < 2 ^ length goods → entry after set ≡ (entry before set -ℤ pos (least_in old set)) +ℤ pos (least_in new set)
  pub others : (set : ℕ) → 2 ^ length goods ≤ set → entry after set ≡ entry before set
