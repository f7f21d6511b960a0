use Rattle.std.proofs.Common.{◌≡◌, [], take}
use Rattle.house_io.specs.Moments.{Moment, IsImage}
use Rattle.house_io.specs.Ranges.{latest_first}
use Rattle.house_io.specs.Fills.{filled_with}
use Rattle.house_io.proofs.memory.recorded_file.filled.Given as goal

abbrev pub invariant-loop-range : goal.invariant-loop-range
invariant-loop-range l = record {
  image : (m : Moment) → IsImage m l.bytes → latest_first l.ranges [] ≡ m.ranges → IsImage m l.image.items;
  filled : l.image.items ≡ filled_with l.byte (latest_first (take l.range-index l.ranges) []) l.bytes;
}
