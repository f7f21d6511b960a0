use Rattle.std.proofs.Common.{◌≡◌, ◌-◌, IsTrue, length}
use Rattle.house_io.specs.Disks.{is_told, told_moments, IsLater}
use Rattle.house_io.specs.Moments.{synced_at}
use Rattle.report_journal.specs.Scans.{places_in}
use Rattle.recovery.specs.Journaled.{owner_of}
use Rattle.recovery.specs.Streams.{HasGiven}
use Rattle.recovery.proofs.recovering.read_reports.Given as goal

abbrev pub invariant-reports : goal.invariant-reports
invariant-reports g l = record {
  owner : l.reader.owner ≡ owner_of l.terms l.clock l.digest;
  given : HasGiven (IsTrue (is_told (g.D.Disk.shown l.disk))) l.reader l.reports.items (told_moments (g.D.Disk.shown l.disk)).now.read;
  synced : IsTrue (is_told (g.D.Disk.shown l.disk)) → told_moments (g.D.Disk.shown l.disk) ≡ synced_at (told_moments (g.D.Disk.shown l.fn.disk));
  later : IsLater (g.D.Disk.shown l.fn.disk) (g.D.Disk.shown l.disk);
  steady : (g.D.Disk.shown l.disk).faults ≡ (g.D.Disk.shown l.fn.disk).faults;
}

abbrev pub decreases-reports : goal.decreases-reports
decreases-reports g l = length (places_in l.reader.scan) - l.reader.given
