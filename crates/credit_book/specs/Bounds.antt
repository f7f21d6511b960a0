-- How large an account grows: each step adds less than 2^32 to a sum, and there are at most 60,000 steps.
use Rattle.std.specs.Prelude.{◌≤◌, ℕ, ◌*◌, ◌^◌, List, slice_index}
use Rattle.lot_base.specs.declared.limits.TheConstants.{MOST_STEPS}

pub record IsBounded (steps units : ℕ) (least : List ℕ) : Type 0 where
  pub few : steps ≤ MOST_STEPS
  pub units_small : units ≤ steps * 2 ^ 32
  pub least_small : (j : ℕ) → slice_index least j ≤ steps * 2 ^ 32
