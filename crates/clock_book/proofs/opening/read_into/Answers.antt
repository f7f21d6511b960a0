use Rattle.std.proofs.Common.{◌∙◌, IsTrue, List, ap, arith, length, subst, sym}
use Rattle.house_io.specs.Disks.{is_told, told_moments}
use Rattle.house_io.specs.Moments.{Moments}
use Rattle.lot_base.specs.Demands.{IsDemand}
use Rattle.demand_set.specs.declared.reports.Report.{Report}
use Rattle.report_journal.specs.Scans.{places_in}
use Rattle.clock.specs.Reports.{ClockHistory, ClockOf}
use Rattle.recovery.specs.Journaled.{Owner, owner_of}
use Rattle.recovery.specs.Streams.{ReportsOf, HasGiven}
use Rattle.clock_book.specs.Opening.{IsHistoryOf}
use Rattle.clock_book.specs.Opened.{KeepsRoom}
use Rattle.clock_book.proofs.Begun.{room-taken}
use Rattle.clock_book.proofs.PayloadsAgain.{not-done}
use Rattle.clock_book.proofs.Taking.{refused, broken-off, history-more}
use Rattle.clock_book.proofs.opening.read_into.Goals as goal

pub returns-in-Err-clause-read : goal.returns-in-Err-clause-read
returns-in-Err-clause-read g c told =
    let i = c.reports.invariant in
    let left = c.in_ok-next_again.ensures.left (not-done c.in_ok-next_again.field-0 c.if-branch.false) in
    let file = (told_moments (g.D.Disk.shown c.reports.disk)).now.read in
    let clock = c.next_again.new.clock in
    let reader = c.next_again.new.reader in
    let history = clock.history in
    let past : IsHistoryOf (owner_of c.args.terms.now c.args.clock c.args.digest.now) history = subst (λ (k : ClockOf). IsHistoryOf (owner_of c.args.terms.now c.args.clock c.args.digest.now) k.history) (sym left.0) i.history in
    let given : HasGiven (IsTrue (is_told (g.D.Disk.shown c.reports.disk))) reader history.reports file =
    subst (λ (k : ClockOf). HasGiven (IsTrue (is_told (g.D.Disk.shown c.reports.disk))) reader k.history.reports file) (sym left.0)
    (subst (λ (r : ReportsOf). HasGiven (IsTrue (is_told (g.D.Disk.shown c.reports.disk))) r c.reports.taken.history.reports file) (sym left.1) i.given) in
    let owner = ap (λ (r : ReportsOf). r.owner) left.1 ∙ i.owner in
    let answer = rw c.in-Report.is at (c.in_ok-report.ensures.answer history.reports given) in
    let goes = rw c.in-Report.is at c.in_ok-report.ensures.goes_on in
    let reads = c.next.ensures.reads in
    refused (owner_of c.args.terms.now c.args.clock c.args.digest.now) c.next.new.self.owner history c.in-Report.report c.given.result c.next.new.self.given c.in-Err.fault
    (told_moments (g.D.Disk.shown c.next.new.disk)).now.read (told_moments (g.D.Disk.shown c.args.disk.now)).now.read past
    (ap (λ (r : ReportsOf). r.owner) goes.0 ∙ owner) c.given.ensures.value answer.0.count (answer.1 told)
    (ap (λ (ms : Moments). ms.now.read) (reads.same told ∙ i.synced (reads.later.told told))) c.in-Err.ensures.refused

pub returns-in-Broken-clause-read : goal.returns-in-Broken-clause-read
returns-in-Broken-clause-read g c told =
    let i = c.reports.invariant in
    let left = c.in_ok-next_again.ensures.left (not-done c.in_ok-next_again.field-0 c.if-branch.false) in
    let file = (told_moments (g.D.Disk.shown c.reports.disk)).now.read in
    let clock = c.next_again.new.clock in
    let reader = c.next_again.new.reader in
    let history = clock.history in
    let past : IsHistoryOf (owner_of c.args.terms.now c.args.clock c.args.digest.now) history = subst (λ (k : ClockOf). IsHistoryOf (owner_of c.args.terms.now c.args.clock c.args.digest.now) k.history) (sym left.0) i.history in
    let given : HasGiven (IsTrue (is_told (g.D.Disk.shown c.reports.disk))) reader history.reports file =
    subst (λ (k : ClockOf). HasGiven (IsTrue (is_told (g.D.Disk.shown c.reports.disk))) reader k.history.reports file) (sym left.0)
    (subst (λ (r : ReportsOf). HasGiven (IsTrue (is_told (g.D.Disk.shown c.reports.disk))) r c.reports.taken.history.reports file) (sym left.1) i.given) in
    let owner = ap (λ (r : ReportsOf). r.owner) left.1 ∙ i.owner in
    let answer = rw c.in-Broken.is at (c.in_ok-report.ensures.answer history.reports given) in
    let goes = rw c.in-Broken.is at c.in_ok-report.ensures.goes_on in
    let reads = c.next.ensures.reads in
    broken-off (owner_of c.args.terms.now c.args.clock c.args.digest.now) c.next.new.self.owner history c.in-Broken.broken
    (told_moments (g.D.Disk.shown c.next.new.disk)).now.read (told_moments (g.D.Disk.shown c.args.disk.now)).now.read past
    (ap (λ (r : ReportsOf). r.owner) goes ∙ owner) (answer.1 told)
    (ap (λ (ms : Moments). ms.now.read) (reads.same told ∙ i.synced (reads.later.told told)))

pub reports-preserved : goal.reports-preserved
reports-preserved g c =
    let i = c.reports.invariant in
    let left = c.in_ok-next_again.ensures.left (not-done c.in_ok-next_again.field-0 c.if-branch.false) in
    let file = (told_moments (g.D.Disk.shown c.reports.disk)).now.read in
    let clock = c.next_again.new.clock in
    let reader = c.next_again.new.reader in
    let history = clock.history in
    let past : IsHistoryOf (owner_of c.args.terms.now c.args.clock c.args.digest.now) history = subst (λ (k : ClockOf). IsHistoryOf (owner_of c.args.terms.now c.args.clock c.args.digest.now) k.history) (sym left.0) i.history in
    let given : HasGiven (IsTrue (is_told (g.D.Disk.shown c.reports.disk))) reader history.reports file =
    subst (λ (k : ClockOf). HasGiven (IsTrue (is_told (g.D.Disk.shown c.reports.disk))) reader k.history.reports file) (sym left.0)
    (subst (λ (r : ReportsOf). HasGiven (IsTrue (is_told (g.D.Disk.shown c.reports.disk))) r c.reports.taken.history.reports file) (sym left.1) i.given) in
    let owner = ap (λ (r : ReportsOf). r.owner) left.1 ∙ i.owner in
    let answer = rw c.in-Report.is at (c.in_ok-report.ensures.answer history.reports given) in
    let goes = rw c.in-Report.is at c.in_ok-report.ensures.goes_on in
    let reads = c.next.ensures.reads in
    let taken = c.in-Ok.ensures.taken in
    let G : List Report → Type 0 = λ rs. HasGiven (IsTrue (is_told (g.D.Disk.shown c.next.new.disk))) c.next.new.self rs (told_moments (g.D.Disk.shown c.next.new.disk)).now.read in
    record {
      owner = ap (λ (r : ReportsOf). r.owner) goes.0 ∙ owner;
      given = subst G (sym (ap (λ (h : ClockHistory). h.reports) taken)) answer.0;
      history = history-more (owner_of c.args.terms.now c.args.clock c.args.digest.now) history c.take.new.clock.history c.in-Report.report past taken c.in-Ok.ensures.judged
          (subst (λ (o : Owner). IsDemand o.terms.goods c.in-Report.report.demand) owner goes.2.fits);
      room = room-taken c.args.empty clock c.take.new.clock c.in-Report.report (subst (λ (k : ClockOf). KeepsRoom c.args.empty k) (sym left.0) i.room) c.in-Ok.ensures.spare;
      synced = λ t. reads.same t ∙ i.synced (reads.later.told t);
      later = record { told = λ t. i.later.told (reads.later.told t); claim = reads.later.claim ∙ i.later.claim };
      steady = c.in_ok-report.ensures.faults ∙ i.steady;
    }

pub returns-in-Err-clause-later : goal.returns-in-Err-clause-later
returns-in-Err-clause-later g c =
    let i = c.reports.invariant in
    let reads = c.next.ensures.reads in
    record { told = λ t. i.later.told (reads.later.told t); claim = reads.later.claim ∙ i.later.claim }

pub reports-smaller : goal.reports-smaller
reports-smaller g c =
    let i = c.reports.invariant in
    let left = c.in_ok-next_again.ensures.left (not-done c.in_ok-next_again.field-0 c.if-branch.false) in
    let goes = rw c.in-Report.is at c.in_ok-report.ensures.goes_on in
    let places = ap (λ (r : ReportsOf). length (places_in r.scan)) goes.0 in
    let count = ap (λ (r : ReportsOf). r.given) goes.0 in
    let all = ap (λ (r : ReportsOf). length (places_in r.scan)) left.1 in
    let before = ap (λ (r : ReportsOf). r.given) left.1 in
    omega (arith, places, count, all, before, goes.1)

-- a report that repeats is taken, and the reader has passed it
pub reports-preserved-then-branch : goal.reports-preserved-then-branch
reports-preserved-then-branch g c =
    let i = c.reports.invariant in
    let taken = c.in_ok-next_again.ensures.done c.if-branch.true in
    let history = c.reports.taken.history in
    let goes = taken.passes.goes_on in
    let now = ap (λ (k : ClockOf). k.history) taken.applied_is in
    let G : List Report → Type 0 = λ rs. HasGiven (IsTrue (is_told (g.D.Disk.shown c.reports.disk))) c.next_again.new.reader rs (told_moments (g.D.Disk.shown c.reports.disk)).now.read in
    record {
      owner = ap (λ (r : ReportsOf). r.owner) goes.0 ∙ i.owner;
      given = subst G (sym (ap (λ (h : ClockHistory). h.reports) now)) (taken.passes.answers (g.D.Disk.shown c.reports.disk) history.reports i.given).0;
      history = history-more (owner_of c.args.terms.now c.args.clock c.args.digest.now) history c.next_again.new.clock.history taken.report i.history now taken.taken
          (subst (λ (o : Owner). IsDemand o.terms.goods taken.report.demand) i.owner goes.2.fits);
      room = room-taken c.args.empty c.reports.taken c.next_again.new.clock taken.report i.room taken.applied_is;
      synced = i.synced;
      later = i.later;
      steady = i.steady;
    }
