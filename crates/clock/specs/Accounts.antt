-- The account of a clock: what its steps add up to for some of its members, after Ausubel 2006.
use Rattle.std.specs.Prelude.{ℕ, zero, suc, ◌+◌, List, ℤ, pos, ◌-ℤ◌}
use Rattle.lot_base.specs.Economy.{without}
use Rattle.lot_base.specs.Steps.{excess}
use Rattle.clock.specs.Reports.{ClockHistory, members_of, demands_in}
use Rattle.clock.specs.Standing.{step_set_after, steps_of}

-- the sum, over the first so many steps, of the supply of the step set less the least that these bidders demand of it
unfoldable pub account_after : ClockHistory → List ℕ → ℕ → ℤ
account_after c bidders zero = pos 0
account_after c bidders (suc steps) = account_after c bidders steps -ℤ excess c.terms.goods (demands_in c.reports (steps + 1)) bidders (step_set_after c steps)

-- over all steps, for every member but one; 0 leaves nobody out
abbrev pub account_without : ClockHistory → ℕ → ℤ
account_without c bidder = account_after c (without bidder (members_of c)) (steps_of c)
