-- How a two-way clock stands. It starts at any prices from the opening on, in round 1, with direction up, and goes up as a clock
-- does. In the first full round in which no set of goods is in excess demand the direction becomes down: from there on the
-- prices fall by one on the fall set of each full round, until it is empty.
-- As a clock it is counted in steps, either way: after n steps it is in round n + 1. What is said of more steps than it has
-- made means nothing.
use Rattle.std.specs.Prelude.{◌≡◌, ◌<◌, ℕ, zero, suc, ◌+◌, ◌*◌, ◌==◌, Bool, true, false, ◌||◌, if◌then◌else◌, List, length, Option, None, ℤ, pos, ◌-ℤ◌}
use Rattle.lot_base.specs.Goods.{raised, lowered}
use Rattle.lot_base.specs.Economy.{without}
use Rattle.lot_base.specs.Steps.{step_set, excess}
use Rattle.lot_base.specs.declared.phases.Phase.{Phase}
use Rattle.demand_set.specs.declared.reports.Report.{Report}
use Rattle.clock.specs.declared.judging.Judgement.{Judgement}
use Rattle.clock.specs.Reports.{is_full, demands_in}
use Rattle.clock.specs.Standing.{good_from, leads_on_by, phase_by}
use Rattle.clock.specs.Judging.{judged}
use Rattle.two_way.specs.Histories.{TwoWayHistory, as_clock, members_in}
use Rattle.overshoot.specs.Shortfall.{shortfall}
use Rattle.two_way.specs.Falling.{fall_set}

-- what the members demand in the round after so many steps, and whether each has reported in it
abbrev pub demands_after : TwoWayHistory → ℕ → ℕ → List (List ℕ)
demands_after h steps = demands_in h.reports (steps + 1)

abbrev pub is_full_after : TwoWayHistory → ℕ → Bool
is_full_after h steps = is_full (members_in h) h.reports (steps + 1)

-- the step set of the round after so many steps
abbrev pub up_set_after : TwoWayHistory → ℕ → ℕ
up_set_after h steps = step_set h.terms.goods (demands_after h steps) (members_in h)

-- whether the direction is down in the round after so many steps, where it is full
unfoldable pub is_down : TwoWayHistory → ℕ → Bool
is_down h zero = up_set_after h 0 == 0
is_down h (suc n) = is_down h n || up_set_after h (suc n) == 0

-- the prices after so many steps
unfoldable pub prices_after : TwoWayHistory → ℕ → List ℕ
prices_after h zero = h.start
prices_after h (suc n) =
    if is_down h n
    then lowered (prices_after h n) (fall_set h.terms.goods h.terms.opening (prices_after h n) (demands_after h n) (members_in h))
    else raised (prices_after h n) (up_set_after h n)

-- the fall set of the round after so many steps, and the set on which its prices move
abbrev pub down_set_after : TwoWayHistory → ℕ → ℕ
down_set_after h steps = fall_set h.terms.goods h.terms.opening (prices_after h steps) (demands_after h steps) (members_in h)

abbrev pub set_after : TwoWayHistory → ℕ → ℕ
set_after h steps = if is_down h steps then down_set_after h steps else up_set_after h steps

-- the first good of a step set that is at the ceiling; on the way down none is looked for
abbrev pub good_at_ceiling : TwoWayHistory → ℕ → Option ℕ
good_at_ceiling h steps = if is_down h steps then None else good_from 0 h.terms.ceiling (prices_after h steps) (up_set_after h steps)

-- whether a round leads on to the next one, and how the clock stands in it
abbrev pub leads_on : TwoWayHistory → ℕ → Bool
leads_on h steps = leads_on_by (is_full_after h steps) (set_after h steps) (good_at_ceiling h steps)

abbrev pub phase_after : TwoWayHistory → ℕ → Phase
phase_after h steps = phase_by (is_full_after h steps) (set_after h steps == 0) (good_at_ceiling h steps)

-- the clock has made so many steps: each round before leads on to the next one, and this one does not
pub record HasSteps (h : TwoWayHistory) (steps : ℕ) : Type 0 where
  pub before : (n : ℕ) → n < steps → leads_on h n ≡ true
  pub stops : leads_on h steps ≡ false

-- The same as a function. Each step up raises a price, and none passes the ceiling; each step down lowers one. So either way there are
-- at most as many steps as the ceiling times the number of goods.
unfoldable pub steps_from : ℕ → TwoWayHistory → ℕ → ℕ
steps_from zero h steps = steps
steps_from (suc limit) h steps = elim (leads_on h steps) [ true ↦ steps_from limit h (suc steps) | false ↦ steps ]

unfoldable pub steps_of : TwoWayHistory → ℕ
steps_of h = steps_from (2 * (length h.terms.goods * h.terms.ceiling)) h 0

abbrev pub phase_of : TwoWayHistory → Phase
phase_of h = phase_after h (steps_of h)

abbrev pub prices_of : TwoWayHistory → List ℕ
prices_of h = prices_after h (steps_of h)

abbrev pub last_round : TwoWayHistory → ℕ
last_round h = steps_of h + 1

abbrev pub last_demands : TwoWayHistory → ℕ → List (List ℕ)
last_demands h = demands_in h.reports (last_round h)

-- what becomes of a report is judged as it is for a clock, over these rounds
abbrev pub judgement_of : TwoWayHistory → Report → Judgement
judgement_of h r = judged (as_clock h) (last_round h) (phase_of h) r

-- what a bidder demanded in the round before the last or current one, as its report in this one
abbrev pub again_by : TwoWayHistory → ℕ → Report
again_by h j = record { bidder = j; round = last_round h; demand = demands_in h.reports (steps_of h) j }

-- how many of the first so many steps were up, and how many down
unfoldable pub ups_after : TwoWayHistory → ℕ → ℕ
ups_after h zero = 0
ups_after h (suc n) = if is_down h n then ups_after h n else ups_after h n + 1

unfoldable pub downs_after : TwoWayHistory → ℕ → ℕ
downs_after h zero = 0
downs_after h (suc n) = if is_down h n then downs_after h n + 1 else downs_after h n

-- The sum over the first so many steps, for some of the members: on the way up the supply of the step set less the least that they
-- demand of it, and on the way down the greatest that they demand of the fall set less the supply of it.
unfoldable pub sum_after : TwoWayHistory → List ℕ → ℕ → ℤ
sum_after h bidders zero = pos 0
sum_after h bidders (suc n) =
    sum_after h bidders n
    -ℤ (if is_down h n then shortfall h.terms.goods (demands_after h n) bidders (down_set_after h n) else excess h.terms.goods (demands_after h n) bidders (up_set_after h n))

-- over all steps, for every member but one; 0 leaves nobody out
abbrev pub sum_without : TwoWayHistory → ℕ → ℤ
sum_without h bidder = sum_after h (without bidder (members_in h)) (steps_of h)
