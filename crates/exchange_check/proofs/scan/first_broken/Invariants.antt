use Rattle.std.proofs.Common.{◌<◌, ℕ, length}
use Rattle.exchange_check.proofs.scan.first_broken.Given as goal
use Rattle.lot_base.specs.Box.{bundle_at}
use Rattle.lot_base.specs.Goods.{box_size}
use Rattle.valuation.specs.Values.{valuation_of}
use Rattle.exchange_check.specs.Exchange.{IsExchanged}

abbrev pub invariant-loop-x : goal.invariant-loop-x
invariant-loop-x l =
    (a b c : ℕ) → a < l.x → b < box_size l.table.supply.now → c < length l.table.supply.now
    → IsExchanged (valuation_of l.table.supply.now l.table.values.now) (bundle_at l.table.supply.now a) (bundle_at l.table.supply.now b) c
