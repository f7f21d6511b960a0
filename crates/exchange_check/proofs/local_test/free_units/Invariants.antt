use Rattle.std.proofs.Common.{◌≡◌, ◌<◌, ◌+◌, ℕ, length, drop, get_or}
use Rattle.exchange_check.proofs.local_test.free_units.Given as goal
use Rattle.lot_base.specs.Goods.{at, box_size}
use Rattle.lot_base.specs.Box.{bundle_at}

abbrev pub invariant-loop-good : goal.invariant-loop-good
invariant-loop-good l =
    (l.rest < box_size (drop l.good l.supply))
    × ((k : ℕ) → at (bundle_at l.supply l.index) (l.good + k) ≡ at (bundle_at (drop l.good l.supply) l.rest) k)
    × ((k : ℕ) → k < l.good → get_or l.free k 0 + at (bundle_at l.supply l.index) k ≡ at l.supply k)
    × (length l.free ≡ 6)
