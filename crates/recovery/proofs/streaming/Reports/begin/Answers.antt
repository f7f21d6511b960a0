use Rattle.std.proofs.Common.{IsTrue, ap, subst, sym, refl}
use Rattle.house_io.specs.Disks.{is_told, told_moments}
use Rattle.house_io.specs.Moments.{Moments}
use Rattle.report_journal.specs.Scans.{IsScan}
use Rattle.recovery.specs.Journaled.{owner_of}
use Rattle.recovery.proofs.Giving.{begun}
use Rattle.recovery.proofs.streaming.Reports.begin.Goals as goal

pub returns-clause-given : goal.returns-clause-given
returns-clause-given g c =
    let new = (told_moments (g.D.Disk.shown c.scanned.new.disk)).now.read in
    let scan = c.in_ok-scan.scan in
    begun (IsTrue (is_told (g.D.Disk.shown c.scanned.new.disk))) (record {
      owner = owner_of c.args.terms.now c.args.clock c.args.digest.now;
      scan = scan;
      given = 0;
      broken = c.broken_header-broken.result;
      window = c.in_ok-window.window;
    }) new refl c.broken_header-broken.ensures
    (λ t. subst (IsScan scan) (sym (ap (λ (ms : Moments). ms.now.read) (c.in_ok-scan.ensures.synced t))) (c.in_ok-scan.ensures.found t)) c.in_ok-window.ensures
