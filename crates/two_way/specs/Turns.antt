-- Where a full round of a two-way clock leads, by what the members demand in it and by how the clock stands in it.
use Rattle.std.specs.Prelude.{◌≡◌, ◌≢◌, ◌⊎◌, ◌<◌, ◌≤◌, ◌+◌, ◌*◌, ℕ, true, false, List, length, Some, None, ◌+ℤ◌, ◌-ℤ◌}
use Rattle.lot_base.specs.declared.limits.TheConstants.{MOST_STEPS}
use Rattle.lot_base.specs.declared.auction_terms.Terms.{Terms}
use Rattle.lot_base.specs.declared.phases.Phase.TheVariants.{Ended, Halted}
use Rattle.lot_base.specs.Economy.{without}
use Rattle.lot_base.specs.Goods.{raised, lowered, AllBelow}
use Rattle.lot_base.specs.Steps.{step_set, excess}
use Rattle.credit_book.specs.Account.{sum_without}
use Rattle.overshoot.specs.Shortfall.{shortfall}
use Rattle.clock.specs.Standing.{good_from}
use Rattle.two_way.specs.Falling.{fall_set}
use Rattle.two_way.specs.declared.next_step.Standing.{Standing}

-- the set on which the round would raise the prices, and that on which it would lower them
abbrev pub set_up : Terms → (ℕ → List (List ℕ)) → List ℕ → ℕ
set_up terms demands members = step_set terms.goods demands members

abbrev pub set_down : Terms → (ℕ → List (List ℕ)) → List ℕ → Standing → ℕ
set_down terms demands members s = fall_set terms.goods terms.opening s.prices demands members

-- the direction is down in the round: it was before, or no set is in excess demand
abbrev pub GoesDown : Terms → (ℕ → List (List ℕ)) → List ℕ → Standing → Type 0
GoesDown terms demands members s = (s.was_down ≡ true) ⊎ (set_up terms demands members ≡ 0)

-- the prices rise on the step set, and the step is added to the account of the way up
pub record Rises (terms : Terms) (demands : ℕ → List (List ℕ)) (members : List ℕ) (before after : Standing) : Type 0 where
  -- the direction is up, and the step set is not empty and has no good at the ceiling
  pub up : before.was_down ≡ false
  pub some : set_up terms demands members ≢ 0
  pub free : good_from 0 terms.ceiling before.prices (set_up terms demands members) ≡ None
  -- there is a step more, and the direction stays
  pub steps : after.steps ≡ before.steps + 1
  pub was_down : after.was_down ≡ false
  pub phase : after.phase ≡ before.phase
  -- the prices are one higher on the set
  pub prices : after.prices ≡ raised before.prices (set_up terms demands members)
  -- each sum has what the others leave of the set more
  pub ups : after.up.steps ≡ before.up.steps + 1
  pub added : (b : ℕ) → sum_without after.up b ≡ sum_without before.up b -ℤ excess terms.goods demands (without b members) (set_up terms demands members)
  -- the account of the way down stays
  pub down : after.down ≡ before.down

-- the step set has a good at the ceiling
pub record Halts (terms : Terms) (demands : ℕ → List (List ℕ)) (members : List ℕ) (before after : Standing) : Type 0 where
  -- the direction is up, and the step set is not empty
  pub up : before.was_down ≡ false
  pub some : set_up terms demands members ≢ 0
  -- this is the first such good
  pub good : ℕ
  pub at_ceiling : good_from 0 terms.ceiling before.prices (set_up terms demands members) ≡ Some good
  -- the phase alone changes
  pub stays : after ≡ record before { phase = Halted good }

-- the prices fall on the fall set, and the step is added to the account of the way down
pub record Falls (terms : Terms) (demands : ℕ → List (List ℕ)) (members : List ℕ) (before after : Standing) : Type 0 where
  -- the direction is down, and the fall set is not empty
  pub goes_down : GoesDown terms demands members before
  pub some : set_down terms demands members before ≢ 0
  -- there is a step more, and the direction is down from now on
  pub steps : after.steps ≡ before.steps + 1
  pub was_down : after.was_down ≡ true
  pub phase : after.phase ≡ before.phase
  -- the prices are one lower on the set
  pub prices : after.prices ≡ lowered before.prices (set_down terms demands members before)
  -- the account of the way up stays
  pub up : after.up ≡ before.up
  -- each sum has what the set is short of without the bidder more
  pub downs : after.down.steps ≡ before.down.steps + 1
  pub added : (b : ℕ) → sum_without after.down b ≡ sum_without before.down b +ℤ shortfall terms.goods demands (without b members) (set_down terms demands members before)

-- the fall set is empty
pub record Ends (terms : Terms) (demands : ℕ → List (List ℕ)) (members : List ℕ) (before after : Standing) : Type 0 where
  -- the direction is down
  pub goes_down : GoesDown terms demands members before
  pub none : set_down terms demands members before ≡ 0
  -- the phase alone changes
  pub stays : after ≡ record before { phase = Ended }

-- one of the four
abbrev pub IsTurned : Terms → (ℕ → List (List ℕ)) → List ℕ → Standing → Standing → Type 0
IsTurned terms demands members before after =
    (Rises terms demands members before after ⊎ Halts terms demands members before after)
    ⊎ (Falls terms demands members before after ⊎ Ends terms demands members before after)

-- the standing is of these terms, and a step more has its place in the accounts
pub record HasRoom (terms : Terms) (demands : ℕ → List (List ℕ)) (members : List ℕ) (s : Standing) : Type 0 where
  -- each good has a price
  pub goods : length s.prices ≡ length terms.goods
  -- neither the steps nor the prices are at the end of their type
  pub steps : s.steps ≤ 2 * MOST_STEPS
  pub below : (set : ℕ) → AllBelow 4294967295 s.prices set
  -- an account has room where a step is added to it
  pub up : s.was_down ≡ false → set_up terms demands members ≢ 0 → good_from 0 terms.ceiling s.prices (set_up terms demands members) ≡ None → s.up.steps < MOST_STEPS
  pub down : GoesDown terms demands members s → set_down terms demands members s ≢ 0 → s.down.steps < MOST_STEPS
