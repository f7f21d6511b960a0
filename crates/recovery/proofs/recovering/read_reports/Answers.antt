use Rattle.std.proofs.Common.{◌∙◌, IsTrue, List, sym, ap, subst}
use Rattle.house_io.specs.Disks.{is_told, told_moments}
use Rattle.demand_set.specs.declared.reports.Report.{Report}
use Rattle.recovery.specs.Streams.{ReportsOf, HasGiven}
use Rattle.recovery.proofs.recovering.read_reports.Goals as goal

pub reports-preserved : goal.reports-preserved
reports-preserved g c =
    let i = c.reports.invariant in
    let answer = rw c.in-Report.is at (c.in_ok-report.ensures.answer c.reports.reports.items i.given) in
    let goes = rw c.in-Report.is at c.in_ok-report.ensures.goes_on in
    let reads = c.next.ensures.reads in
    let G : List Report → Type 0 = λ rs. HasGiven (IsTrue (is_told (g.D.Disk.shown c.next.new.disk))) c.next.new.self rs (told_moments (g.D.Disk.shown c.next.new.disk)).now.read in
    record {
      owner = ap (λ (r : ReportsOf). r.owner) goes.0 ∙ i.owner;
      given = subst G (sym c.in_ok-push-in-Report.ensures.items) answer.0;
      synced = λ t. reads.same t ∙ i.synced (reads.later.told t);
      later = record { told = λ t. i.later.told (reads.later.told t); claim = reads.later.claim ∙ i.later.claim };
      steady = c.in_ok-report.ensures.faults ∙ i.steady;
    }
