use Rattle.std.proofs.Common.{◌≡◌, ◌≤◌, length, take}
use Rattle.lot_base.specs.Goods.{box_size}
use Rattle.rationale.specs.Kept.{thinned}
use Rattle.rationale.specs.Placed.{IsCourse}
use Rattle.rationale.proofs.observing.pass.Given as goal

abbrev pub invariant-loop-place : goal.invariant-loop-place
invariant-loop-place l = record {
  costs : length l.costs ≡ box_size l.goods;
  gaps : length l.gaps ≡ box_size l.goods;
  places : length l.places ≡ box_size l.goods;
  lowered : l.lowered ≤ l.place;
  next : l.course.next ≡ length (thinned (take l.place l.stretches));
  course : IsCourse l.goods (thinned (take l.place l.stretches)) 0 l.fn.labels l.fn.parents l.labels l.parents l.course.fell;
}
