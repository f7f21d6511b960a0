use Rattle.std.proofs.Common.{◌∙◌, sym, ap, refl}
use Rattle.house_io.specs.Disks.{told_moments}
use Rattle.clock.specs.Judging.{judgement_of}
use Rattle.clock_book.specs.Past.{owner_in}
use Rattle.clock_book.proofs.Mending.{kept-rest}
use Rattle.clock_book.proofs.books.ClockBook.judge_and_append.Goals as goal

pub returns-in-Again-clause-moments : goal.returns-in-Again-clause-moments
returns-in-Again-clause-moments g c t =
    let b = c.args.self.now in
    kept-rest (owner_in b.origin) b.state.clock.reports b.state.pending c.args.report (told_moments (g.D.Disk.shown b.disk)) c.requires.settled (c.clock-clock.ensures.kept.stands t)

pub returns-in_default : goal.returns-in_default
returns-in_default g c =
    let b = c.args.self.now in
    record {
      answer = (ap (λ h. judgement_of h c.args.report) (sym c.clock-clock.ensures.value) ∙ sym c.judge.ensures.value, c.in_default.not-Take, c.in_default.not-Again, refl);
      cause = λ e. absurd (cc e);
      origin = refl;
      later = record { told = λ t. t; claim = refl };
      faults = refl;
      moments = λ t. kept-rest (owner_in b.origin) b.state.clock.reports b.state.pending c.args.report (told_moments (g.D.Disk.shown b.disk)) c.requires.settled (c.clock-clock.ensures.kept.stands t);
    }
