use Rattle.std.proofs.Common.{◌≡◌, ◌<◌, ◌-◌, ◌*◌, ◌^◌, length}
use Rattle.lot_base.specs.Goods.{box_size}
use Rattle.rationale.specs.Climbs.{AreBelow}
use Rattle.rationale.specs.Places.{is_edge, edge_weight}
use Rattle.rationale.specs.Shown.{label_of}
use Rattle.rationale.specs.Kept.{thinned}
use Rattle.rationale.specs.Placed.{IsPlaced, AreBetween}
use Rattle.rationale.proofs.settling.settle.Given as goal

abbrev pub invariant-loop-done : goal.invariant-loop-done
invariant-loop-done l = record {
  costs : length l.costs ≡ box_size l.goods;
  gaps : length l.gaps ≡ box_size l.goods;
  places : length l.places ≡ box_size l.goods;
  labels : length l.labels ≡ box_size l.goods;
  parents : length l.parents ≡ box_size l.goods;
  few : l.done < box_size l.goods;
  between : AreBetween (2 ^ 60 - l.done * (length (thinned l.stretches) * 2 ^ 26)) (2 ^ 60) l.labels;
  placed : IsPlaced l.goods (thinned l.stretches) l.labels l.parents;
  below : AreBelow (is_edge l.goods (thinned l.stretches)) (edge_weight l.goods (thinned l.stretches)) l.done (label_of l.labels);
}
