use Rattle.std.proofs.Common.{◌≡◌, ◌<◌}
use Rattle.lot_base.specs.Goods.{box_size}
use Rattle.lot_base.specs.Box.{bundle_at}
use Rattle.valuation.specs.Carried.{best_before}
use Rattle.valuation.proofs.collecting.collect_from.Given as goal

abbrev pub invariant-loop-place : goal.invariant-loop-place
invariant-loop-place l = record {
  found : l.found.items ≡ best_before l.goods l.worth l.best l.place;
  at : l.place < box_size l.goods → l.quantities ≡ bundle_at l.goods l.place;
}
