-- How a clock stands: an ascending clock after Ausubel 2006. It opens at the opening prices, in round 1. Where each member has
-- reported in a round, the prices rise by one on the step set of what they demand, and the next round begins. The clock has
-- ended where the step set is empty, and is halted where it has a good at the ceiling.
-- A clock is counted in steps: after n steps it is in round n + 1. What is said of more steps than the clock has made means
-- nothing.
use Rattle.std.specs.Prelude.{◌≡◌, ◌<◌, ℕ, zero, suc, ◌+◌, ◌*◌, ◌/◌, ◌%◌, ◌==◌, Bool, true, false, not, ◌&&◌, List, [], ◌∷◌, ◌++◌, length, if◌then◌else◌, find, Option, Some, None, is_none, unwrap_or}
use Rattle.lot_base.specs.Goods.{raised}
use Rattle.lot_base.specs.Steps.{step_set}
use Rattle.lot_base.specs.declared.phases.Phase.{Phase}
use Rattle.lot_base.specs.declared.phases.Phase.TheVariants.{Running, Ended, Halted}
use Rattle.clock.specs.Reports.{ClockHistory, members_of, is_full, demand_in, demands_in}

-- the step set of the round after so many steps
abbrev pub step_set_after : ClockHistory → ℕ → ℕ
step_set_after c steps = step_set c.terms.goods (demands_in c.reports (steps + 1)) (members_of c)

-- whether each member has reported in the round after so many steps
abbrev pub is_full_after : ClockHistory → ℕ → Bool
is_full_after c steps = is_full (members_of c) c.reports (steps + 1)

-- the prices after so many steps: the opening, and one more on the step set of each round
unfoldable pub prices_after : ClockHistory → ℕ → List ℕ
prices_after c zero = c.terms.opening
prices_after c (suc steps) = raised (prices_after c steps) (step_set_after c steps)

-- the step sets of the first so many rounds
unfoldable pub sets_of : ClockHistory → ℕ → List ℕ
sets_of c zero = []
sets_of c (suc n) = sets_of c n ++ step_set_after c n ∷ []

-- the first good of a set that is at the ceiling, counted from a number on
abbrev pub good_from : ℕ → ℕ → List ℕ → ℕ → Option ℕ
good_from good ceiling [] set = None
good_from good ceiling (p ∷ ps) set = if (set % 2 == 1) && (p == ceiling) then Some good else good_from (good + 1) ceiling ps (set / 2)

abbrev pub good_at_ceiling : ClockHistory → ℕ → Option ℕ
good_at_ceiling c steps = good_from 0 c.terms.ceiling (prices_after c steps) (step_set_after c steps)

-- whether a round leads on to the next one: it is full, its step set is not empty and has no good at the ceiling
abbrev pub leads_on_by : Bool → ℕ → Option ℕ → Bool
leads_on_by full set good = full && (not (set == 0) && is_none good)

abbrev pub leads_on : ClockHistory → ℕ → Bool
leads_on c steps = leads_on_by (is_full_after c steps) (step_set_after c steps) (good_at_ceiling c steps)

-- how the clock stands in a round
abbrev pub phase_by : Bool → Bool → Option ℕ → Phase
phase_by false empty good = Running
phase_by true true good = Ended
phase_by true false None = Running
phase_by true false (Some k) = Halted k

abbrev pub phase_after : ClockHistory → ℕ → Phase
phase_after c steps = phase_by (is_full_after c steps) (step_set_after c steps == 0) (good_at_ceiling c steps)

-- The clock has made so many steps: each round before leads on to the next one, and this one does not.
pub record HasSteps (c : ClockHistory) (steps : ℕ) : Type 0 where
  pub before : (n : ℕ) → n < steps → leads_on c n ≡ true
  pub stops : leads_on c steps ≡ false

-- The same as a function. Each step raises a price, and none passes the ceiling, so there are at most as many steps as the
-- ceiling times the number of goods.
unfoldable pub steps_from : ℕ → ClockHistory → ℕ → ℕ
steps_from zero c steps = steps
steps_from (suc limit) c steps = elim (leads_on c steps) [ true ↦ steps_from limit c (suc steps) | false ↦ steps ]

unfoldable pub steps_of : ClockHistory → ℕ
steps_of c = steps_from (length c.terms.goods * c.terms.ceiling) c 0

-- how the clock stands now, at which prices
abbrev pub phase_of : ClockHistory → Phase
phase_of c = phase_after c (steps_of c)

abbrev pub prices_of : ClockHistory → List ℕ
prices_of c = prices_after c (steps_of c)

-- the last or current round, and what a member demands in it
abbrev pub last_round : ClockHistory → ℕ
last_round c = steps_of c + 1

abbrev pub last_demands : ClockHistory → ℕ → List (List ℕ)
last_demands c = demands_in c.reports (last_round c)

-- the smallest member without a report in the last or current round, 0 where there is none
abbrev pub missing_of : ClockHistory → ℕ
missing_of c = unwrap_or (find (λ j. is_none (demand_in c.reports (last_round c) j)) (members_of c)) 0
