-- Where a round leads, by what is kept of it: how far each set is in excess demand, and what the members demand at least.
use Rattle.std.specs.Prelude.{◌≡◌, ◌≢◌, ◌⊎◌, ◌+◌, ◌+ℤ◌, ℕ, ℤ, List, length, Option, Some, None}
use Rattle.lot_base.specs.Goods.{raised}
use Rattle.lot_base.specs.Steps.{IsStepSet}
use Rattle.lot_base.specs.declared.tables.LeastTable.{LeastTable}
use Rattle.lot_base.specs.declared.supply.GoodSet.{GoodSet}
use Rattle.lot_base.specs.declared.phases.Phase.TheVariants.{Running, Ended, Halted}
use Rattle.lyapunov.specs.Excesses.{entry}
use Rattle.credit_book.specs.Account.{Sums, sum_without, units_left}
use Rattle.clock.specs.declared.next_step.Standing.{Standing}
use Rattle.clock.specs.Standing.{good_from}

-- some member has not reported: all is as it was
pub record Waits (steps : ℕ) (prices : List ℕ) (before after : Sums) (s : Standing) : Type 0 where
  pub standing : s ≡ record { steps = steps; phase = Running; prices = prices; raised = None }
  pub account : after ≡ before

-- no set is in excess demand: the clock has ended
pub record Ends (goods : List ℕ) (steps : ℕ) (prices : List ℕ) (excess : List ℤ) (before after : Sums) (s : Standing) : Type 0 where
  pub chosen : IsStepSet (length goods) (entry excess) 0
  pub standing : s ≡ record { steps = steps; phase = Ended; prices = prices; raised = None }
  pub account : after ≡ before

-- the step set has a good at the ceiling: the clock is halted
pub record Halts (goods : List ℕ) (ceiling steps : ℕ) (prices : List ℕ) (excess : List ℤ) (before after : Sums) (s : Standing) : Type 0 where
  pub set : ℕ
  pub good : ℕ
  pub chosen : IsStepSet (length goods) (entry excess) set
  pub some : set ≢ 0
  pub at_ceiling : good_from 0 ceiling prices set ≡ Some good
  pub standing : s ≡ record { steps = steps; phase = Halted good; prices = prices; raised = None }
  pub account : after ≡ before

-- the prices rise on the step set, and the step is added to the account
pub record Rises (goods : List ℕ) (ceiling steps : ℕ) (prices : List ℕ) (excess : List ℤ) (tables : List (Option LeastTable)) (before after : Sums) (s : Standing) : Type 0 where
  pub set : GoodSet
  pub chosen : IsStepSet (length goods) (entry excess) set.0
  pub some : set.0 ≢ 0
  pub free : good_from 0 ceiling prices set.0 ≡ None
  pub standing : s ≡ record { steps = steps + 1; phase = Running; prices = raised prices set.0; raised = Some set }
  pub account_steps : after.steps ≡ before.steps + 1
  pub account_sums : (bidder : ℕ) → sum_without after bidder ≡ sum_without before bidder +ℤ units_left goods tables set.0 bidder

-- where a full round leads
abbrev pub IsTurn : List ℕ → ℕ → ℕ → List ℕ → List ℤ → List (Option LeastTable) → Sums → Sums → Standing → Type 0
IsTurn goods ceiling steps prices excess tables before after s =
    Ends goods steps prices excess before after s ⊎ (Halts goods ceiling steps prices excess before after s ⊎ Rises goods ceiling steps prices excess tables before after s)
