use Rattle.std.proofs.Common.{◌<◌, ◌≤◌, ℕ, length}
use Rattle.exchange_check.proofs.local_test.holds_at.Given as goal
use Rattle.lot_base.specs.Box.{bundle_at}
use Rattle.valuation.specs.Values.{valuation_of}
use Rattle.exchange_check.specs.Local.{IsLocalPair}

abbrev pub invariant-loop-i : goal.invariant-loop-i
invariant-loop-i l =
    (a b : ℕ) → a < l.i → a ≤ b → b < length l.table.supply.now
    → IsLocalPair l.table.supply.now (valuation_of l.table.supply.now l.table.values.now) (bundle_at l.table.supply.now l.index) a b

abbrev pub invariant-loop-j : goal.invariant-loop-j
invariant-loop-j l =
    ((a b : ℕ) → a < l.i → a ≤ b → b < length l.table.supply.now
    → IsLocalPair l.table.supply.now (valuation_of l.table.supply.now l.table.values.now) (bundle_at l.table.supply.now l.index) a b)
    × ((b : ℕ) → l.i ≤ b → b < l.j
    → IsLocalPair l.table.supply.now (valuation_of l.table.supply.now l.table.values.now) (bundle_at l.table.supply.now l.index) l.i b)
