use Rattle.std.proofs.Common.{ℕ, ◌<◌}
use Rattle.overshoot.specs.Scanned.{IsExchangedFor}
use Rattle.overshoot.proofs.exchanging.is_exchanged.Given as goal

abbrev pub invariant-loop-other : goal.invariant-loop-other
invariant-loop-other l = (m : ℕ) → m < l.other → IsExchangedFor l.table.demand.now l.pair.x l.pair.y l.good m → ⊥
