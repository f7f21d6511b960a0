use Rattle.std.proofs.Common.{◌<◌, ℕ, length}
use Rattle.exchange_check.proofs.scan.first_broken_from.Given as goal
use Rattle.lot_base.specs.Box.{bundle_at}
use Rattle.valuation.specs.Values.{valuation_of}
use Rattle.exchange_check.specs.Exchange.{IsExchanged}

abbrev pub invariant-loop-y : goal.invariant-loop-y
invariant-loop-y l =
    (b c : ℕ) → b < l.y → c < length l.table.supply.now
    → IsExchanged (valuation_of l.table.supply.now l.table.values.now) (bundle_at l.table.supply.now l.x) (bundle_at l.table.supply.now b) c
