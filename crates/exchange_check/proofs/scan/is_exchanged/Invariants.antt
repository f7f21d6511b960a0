use Rattle.std.proofs.Common.{◌<◌, ℕ}
use Rattle.exchange_check.proofs.scan.is_exchanged.Given as goal
use Rattle.lot_base.specs.Box.{bundle_at}
use Rattle.valuation.specs.Values.{valuation_of}
use Rattle.exchange_check.specs.Exchange.{IsExchangedFor}

abbrev pub invariant-loop-other : goal.invariant-loop-other
invariant-loop-other l =
    (m : ℕ) → m < l.other
    → IsExchangedFor (valuation_of l.table.supply.now l.table.values.now) (bundle_at l.table.supply.now l.x) (bundle_at l.table.supply.now l.y) l.good m → ⊥
