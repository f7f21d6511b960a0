use Rattle.std.proofs.Common.{◌<◌, ℕ}
use Rattle.exchange_check.proofs.local_test.pair_at.Given as goal
use Rattle.lot_base.specs.Box.{bundle_at}
use Rattle.valuation.specs.Values.{valuation_of}
use Rattle.exchange_check.specs.Local.{IsLocalThird}

abbrev pub invariant-loop-k : goal.invariant-loop-k
invariant-loop-k l =
    (m : ℕ) → m < l.k → IsLocalThird l.table.supply.now (valuation_of l.table.supply.now l.table.values.now) (bundle_at l.table.supply.now l.index) l.i l.j m
