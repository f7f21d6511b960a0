use Rattle.std.proofs.Common.{ℕ, ◌<◌}
use Rattle.overshoot.specs.Exchange.{IsExchanged}
use Rattle.overshoot.proofs.exchanging.first_good.Given as goal

abbrev pub invariant-loop-good : goal.invariant-loop-good
invariant-loop-good l = (k : ℕ) → k < l.good → IsExchanged l.table.demand.now l.pair.x l.pair.y k
