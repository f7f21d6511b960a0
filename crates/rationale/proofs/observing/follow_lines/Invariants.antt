use Rattle.std.proofs.Common.{◌≡◌, ◌+◌, length, take}
use Rattle.lot_base.specs.Goods.{box_size}
use Rattle.rationale.specs.Kept.{lines_by, thin_at}
use Rattle.rationale.specs.Placed.{bundles_at, IsCourse}
use Rattle.rationale.proofs.observing.follow_lines.Given as goal

abbrev pub invariant-loop-place : goal.invariant-loop-place
invariant-loop-place l = record {
  costs : length l.costs ≡ box_size l.goods;
  next : l.course.next ≡ l.first + length (lines_by (thin_at (bundles_at l.goods l.wanted.places.now)) (take l.place l.lines));
  course : IsCourse l.goods (lines_by (thin_at (bundles_at l.goods l.wanted.places.now)) (take l.place l.lines)) l.first l.fn.labels l.fn.parents l.labels l.parents l.course.fell;
}
