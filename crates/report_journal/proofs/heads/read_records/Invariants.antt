use Rattle.std.proofs.Common.{◌≡◌, ◌-◌, ◌≤◌, length, IsTrue}
use Rattle.house_io.specs.Disks.{is_told, told_moments, IsLater}
use Rattle.lot_base.specs.declared.limits.TheConstants.{GREATEST_FILE}
use Rattle.report_journal.specs.Scans.{AreRead, IsChunk, FollowTo}
use Rattle.report_journal.proofs.heads.read_records.Given as goal

abbrev pub invariant-records : goal.invariant-records
invariant-records g l = record {
  later : IsLater (g.D.Disk.shown l.initial.disk) (g.D.Disk.shown l.disk);
  moments : IsTrue (is_told (g.D.Disk.shown l.disk)) → told_moments (g.D.Disk.shown l.disk) ≡ told_moments (g.D.Disk.shown l.initial.disk);
  read : IsTrue (is_told (g.D.Disk.shown l.disk)) → AreRead l.first l.places.items l.gate (told_moments (g.D.Disk.shown l.initial.disk)).now.read;
  known : IsTrue (is_told (g.D.Disk.shown l.disk)) → l.known ≤ length (told_moments (g.D.Disk.shown l.initial.disk)).now.read;
  chunk : IsTrue (is_told (g.D.Disk.shown l.disk)) → IsChunk l.chunk.bytes.items l.chunk.at l.chunk.filled (told_moments (g.D.Disk.shown l.initial.disk)).now.read;
  follows : FollowTo l.first l.places.items l.gate;
  faults : (g.D.Disk.shown l.disk).faults ≡ (g.D.Disk.shown l.initial.disk).faults;
}

abbrev pub decreases-records : goal.decreases-records
decreases-records g l = GREATEST_FILE - l.gate
