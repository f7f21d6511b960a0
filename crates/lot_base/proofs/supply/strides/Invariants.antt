use Rattle.std.proofs.Common.{◌≡◌, ◌+◌, ◌<◌, ◌≤◌, ◌-◌, ℕ, length, drop, get_or}
use Rattle.lot_base.proofs.supply.strides.Given as goal
use Rattle.lot_base.specs.Goods.{box_size}
use Rattle.lot_base.specs.Strides.{stride}

abbrev pub invariant-loop-i : goal.invariant-loop-i
invariant-loop-i l =
    (l.size ≡ box_size (drop (length l.supply - l.i) l.supply))
    × ((k : ℕ) → length l.supply ≤ l.i + k → k < length l.supply → get_or l.strides k 0 ≡ stride l.supply k)
    × (length l.strides ≡ 6)
