use Rattle.std.proofs.Common.{◌<◌, ℕ}
use Rattle.exchange_check.proofs.local_test.is_strong.Given as goal
use Rattle.lot_base.specs.Box.{bundle_at}
use Rattle.valuation.specs.Values.{valuation_of}
use Rattle.exchange_check.specs.Local.{IsLocalAt}

abbrev pub invariant-loop-index : goal.invariant-loop-index
invariant-loop-index l =
    (m : ℕ) → m < l.index → IsLocalAt l.table.supply.now (valuation_of l.table.supply.now l.table.values.now) (bundle_at l.table.supply.now m)
