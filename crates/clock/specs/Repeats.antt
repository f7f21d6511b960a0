-- Reports that repeat: rounds in which each member reports again what it reported in the round before, the smallest member first; and
-- one report whose demand its bidder has reported before.
use Rattle.std.specs.Prelude.{◌≡◌, ◌≤◌, ℕ, zero, suc, ◌++◌, map, List, Some, None}
use Rattle.std.specs.List.{concat}
use Rattle.lot_base.specs.Demands.{IsDemand}
use Rattle.byte_numbers.specs.Spelling.{short_numbers}
use Rattle.demand_set.specs.declared.reports.Report.{Report}
use Rattle.clock.specs.declared.judging.Judgement.TheVariants.{Take}
use Rattle.clock.specs.Reports.{ClockHistory, ClockOf, demand_in, demands_in, members_of, applied}
use Rattle.clock.specs.Standing.{steps_of, last_round}
use Rattle.clock.specs.Judging.{judgement_of}

-- a step was made, and nobody has reported since
pub record IsIdle (c : ClockHistory) : Type 0 where
  pub some_step : 1 ≤ steps_of c
  pub nobody : (bidder : ℕ) → demand_in c.reports (last_round c) bidder ≡ None

-- what a member reports again
abbrev pub again_by : ClockHistory → ℕ → Report
again_by c j = record { bidder = j; round = last_round c; demand = demands_in c.reports (steps_of c) j }

-- the history with one such round more, and with so many
abbrev pub with_round : ClockHistory → ClockHistory
with_round c = record c { reports = c.reports ++ map (again_by c) (members_of c) }

abbrev pub repeated : ℕ → ClockHistory → ClockHistory
repeated zero c = c
repeated (suc rounds) c = with_round (repeated rounds c)

-- The bidder's report of the quantities that these bytes spell is applied in the round. Its demand is one that the bidder has reported.
pub record TakesAgain (old new : ClockOf) (bidder round : ℕ) (quantities : List ℕ) : Type 0 where
  pub demand : List (List ℕ)
  -- the bytes spell its quantities
  pub quantities_are : short_numbers quantities ≡ concat demand
  -- the bidder has reported it in an earlier round
  pub before : ℕ
  pub reported : demand_in old.history.reports before bidder ≡ Some demand
  -- so it is one of the goods
  pub fits : IsDemand old.history.terms.goods demand
  -- the clock takes it, and it is applied
  pub taken : judgement_of old.history (record { bidder = bidder; round = round; demand = demand }) ≡ Take
  pub applied_is : new ≡ applied old (record { bidder = bidder; round = round; demand = demand })
