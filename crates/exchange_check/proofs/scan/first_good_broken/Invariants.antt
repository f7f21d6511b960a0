use Rattle.std.proofs.Common.{◌<◌, ℕ}
use Rattle.exchange_check.proofs.scan.first_good_broken.Given as goal
use Rattle.lot_base.specs.Box.{bundle_at}
use Rattle.valuation.specs.Values.{valuation_of}
use Rattle.exchange_check.specs.Exchange.{IsExchanged}

abbrev pub invariant-loop-good : goal.invariant-loop-good
invariant-loop-good l =
    (c : ℕ) → c < l.good
    → IsExchanged (valuation_of l.table.supply.now l.table.values.now) (bundle_at l.table.supply.now l.x) (bundle_at l.table.supply.now l.y) c
