use Rattle.std.proofs.Common.{IsTrue, ℕ, Ok, Err, None, inl, map, length, sym, ◌∙◌, ap, subst}
use Rattle.std.proofs.lemmas.Bool.{true≢false}
use Rattle.std.proofs.lemmas.Result.{IfOk-weaker}
use Rattle.house_io.specs.Disks.{told_moments}
use Rattle.house_io.specs.Moments.{Moments, synced_at}
use Rattle.report_journal.specs.declared.scanning.Scanned.{Scanned}
use Rattle.clock.specs.Reports.{ClockHistory}
use Rattle.recovery.specs.Journaled.{owner_of}
use Rattle.clock_book.specs.declared.entries.Entry.TheVariants.{Offered}
use Rattle.clock_book.specs.Books.{BookState}
use Rattle.clock_book.specs.DeskHistories.{NotedOf}
use Rattle.clock_book.specs.Opening.{CountsFaults, IsHistoryOf, IsOpening, ReadsClock}
use Rattle.clock_book.specs.Opened.{IsOf, OpenLeaves}
use Rattle.clock_book.proofs.Begun.{left-by, counts-by}
use Rattle.clock_book.proofs.books.ClockBook.open.Goals as goal

pub returns-in-Err-clause-err : goal.returns-in-Err-clause-err
returns-in-Err-clause-err g c = record {
  refused = λ t. tt;
  counts = (c.claim.ensures.cause.later, c.in-Err.ensures.cause.failed);
  told = c.claim.ensures.told;
  leaves = λ t. inl (c.claim.ensures.moments t);
  unclaimed = λ is t. c.claim.ensures.moments t;
}

pub returns-in-Err-read_noted-clause-err : goal.returns-in-Err-read_noted-clause-err
returns-in-Err-read_noted-clause-err g c =
    let owner = owner_of c.args.terms.now c.args.clock c.args.digest.now in
    let claimed = c.in_default.ensures in
    let later = c.read_noted.ensures.later in
    let old = told_moments (g.D.Disk.shown c.args.disk) in
    let new = told_moments (g.D.Disk.shown c.read_noted.new.disk) in
    let Reads : Moments → Type 0 = λ ms. ReadsClock owner ms.now.read (Err c.in-Err-read_noted.fault) in
    let Counts : ℕ → Type 0 = λ n. CountsFaults {T = ℕ} n (g.D.Disk.shown c.read_noted.new.disk).faults (Err c.in-Err-read_noted.fault) in
    record {
      refused = λ t. subst Reads (claimed.moments (later.told t)) (c.in-Err-read_noted.ensures.read t);
      counts = subst Counts claimed.cause.steady
          (counts-by (NotedOf × Scanned) (g.D.Disk.shown c.claim.new.self).faults (g.D.Disk.shown c.read_noted.new.disk).faults c.in-Err-read_noted.fault c.in-Err-read_noted.ensures.faults);
      told = λ t. claimed.told (later.told t);
      leaves = λ t.
          let same = claimed.moments (later.told t) in
          left-by (NotedOf × Scanned) owner old new c.in-Err-read_noted.fault (rw same at (c.in-Err-read_noted.ensures.synced t));
      unclaimed = λ is t. absurd (true≢false (sym claimed.claimed ∙ sym later.claim ∙ is));
    }

pub returns-in-Ok-clause-ok : goal.returns-in-Ok-clause-ok
returns-in-Ok-clause-ok g c =
    let owner = owner_of c.args.terms.now c.args.clock c.args.digest.now in
    let claimed = c.in_default.ensures in
    let later = c.read_noted.ensures.later in
    let opened : ClockHistory → BookState = λ k. record { clock = k; history = map Offered k.reports; pending = None } in
    IfOk-weaker c.begin.result _ _ (λ b begins.
    let clock_is = ap (λ (s : BookState). s.clock) begins.state in
    let History : ClockHistory → Type 0 = λ k. IsHistoryOf owner k in
    let Origin : ClockHistory → Type 0 = λ k. IsOf owner (length k.reports) b.origin in
    let Opening : ClockHistory → Type 0 = λ k. IsOpening owner (told_moments (g.D.Disk.shown c.args.disk)).now.read (Ok k) in
    let Reads : Moments → Type 0 = λ ms. IsOpening owner ms.now.read (Ok c.in-Ok.noted.clock) in
    let Leaves : Moments → Type 0 = λ ms. OpenLeaves owner ms (told_moments (g.D.Disk.shown b.disk)) b.origin in
    record {
      history = subst History (sym clock_is) c.in-Ok.ensures.noted.history;
      state = begins.state ∙ ap opened (sym clock_is);
      read = λ t.
          let told = begins.later.told t in
          subst Opening (sym clock_is) (subst Reads (claimed.moments (later.told told)) (c.in-Ok.ensures.read told));
      origin = subst Origin (sym clock_is) begins.origin;
      told = λ t. claimed.told (later.told (begins.later.told t));
      claimed = subst IsTrue (sym (begins.later.claim ∙ later.claim)) claimed.claimed;
      told_is = begins.told_is;
      steady = begins.steady ∙ c.in-Ok.ensures.faults ∙ claimed.cause.steady;
      leaves = λ t.
          let told = begins.later.told t in
          subst Leaves (c.in-Ok.ensures.synced told ∙ ap synced_at (claimed.moments (later.told told))) (begins.leaves t);
    }) c.begin.ensures.ok
