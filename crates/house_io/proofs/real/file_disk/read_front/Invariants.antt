use Rattle.std.proofs.Common.{◌≡◌, ◌≤◌, ◌-◌, length, take}
use Rattle.std.specs.Io.KnownBytes.{Consumes}
use Rattle.house_io.proofs.real.file_disk.read_front.Given as goal

abbrev pub invariant-reads : goal.invariant-reads
invariant-reads g l = record {
  within : l.done ≤ length l.into;
  same : length l.into ≡ length l.initial.into;
  taken : Consumes (g.F.Read.remaining l.initial.file) (g.F.Read.remaining l.file) (take l.done l.into);
}

abbrev pub decreases-reads : goal.decreases-reads
decreases-reads g l = length l.into - l.done
