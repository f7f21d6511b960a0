use Rattle.std.proofs.Common.{arith}
use Rattle.house_io.specs.Disks.{told_moments}
use Rattle.clock_book.specs.Past.{owner_in}
use Rattle.clock_book.proofs.Mending.{stands-either, next-of, reports-of}
use Rattle.clock_book.proofs.books.ClockBook.clock.Goals as goal

pub returns-clause-kept : goal.returns-clause-kept
returns-clause-kept g c =
    let b = c.self.inside in
    let kept = c.self.invariant in
    rw (← c.self.view_is) (record {
      legal = c.clock.ensures.legal;
      terms = kept.terms;
      number = kept.number;
      reports = kept.reports;
      marks = kept.marks;
      limit = omega (arith, kept.end, c.count-kept.ensures.limit);
      next = next-of b.noted b.pending kept.waits;
      doubt = kept.doubt;
      stands = λ t. stands-either (owner_in b.start) b.noted.clock.reports b.pending b.journal.contents b.journal.pending (told_moments (g.D.Disk.shown b.journal.disk)) kept.are (reports-of b.start.terms b.noted b.pending kept.terms kept.waits) (kept.contents t) kept.in_doubt (c.count-kept.ensures.kept t).stands;
      past = kept.past;
      first = kept.first;
      claimed = c.count-kept.ensures.claimed;
    })
