use Rattle.std.proofs.Common.{◌≡◌, ◌<◌, ◌^◌, ℕ, get_or}
use Rattle.lot_base.specs.Goods.{quantity_in}
use Rattle.lyapunov.proofs.units_of.Given as goal

abbrev pub invariant-loop-good : goal.invariant-loop-good
invariant-loop-good l = record {
  sets : l.sets ≡ 2 ^ l.good;
  units : (k : ℕ) → k < l.sets → get_or l.units k 0 ≡ quantity_in l.goods k;
}
