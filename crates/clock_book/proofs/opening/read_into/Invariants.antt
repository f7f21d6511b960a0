use Rattle.std.proofs.Common.{◌≡◌, ◌-◌, IsTrue, length}
use Rattle.house_io.specs.Disks.{is_told, told_moments, IsLater}
use Rattle.house_io.specs.Moments.{synced_at}
use Rattle.report_journal.specs.Scans.{places_in}
use Rattle.recovery.specs.Journaled.{owner_of}
use Rattle.recovery.specs.Streams.{HasGiven}
use Rattle.clock_book.specs.Opening.{IsHistoryOf}
use Rattle.clock_book.specs.Opened.{KeepsRoom}
use Rattle.clock_book.proofs.opening.read_into.Given as goal

abbrev pub invariant-reports : goal.invariant-reports
invariant-reports g l = record {
  owner : l.reader.owner ≡ owner_of l.terms l.clock l.digest;
  given : HasGiven (IsTrue (is_told (g.D.Disk.shown l.disk))) l.reader l.taken.history.reports (told_moments (g.D.Disk.shown l.disk)).now.read;
  history : IsHistoryOf (owner_of l.terms l.clock l.digest) l.taken.history;
  room : KeepsRoom l.fn.empty l.taken;
  synced : IsTrue (is_told (g.D.Disk.shown l.disk)) → told_moments (g.D.Disk.shown l.disk) ≡ synced_at (told_moments (g.D.Disk.shown l.fn.disk));
  later : IsLater (g.D.Disk.shown l.fn.disk) (g.D.Disk.shown l.disk);
  steady : (g.D.Disk.shown l.disk).faults ≡ (g.D.Disk.shown l.fn.disk).faults;
}

abbrev pub decreases-reports : goal.decreases-reports
decreases-reports g l = length (places_in l.reader.scan) - l.reader.given
