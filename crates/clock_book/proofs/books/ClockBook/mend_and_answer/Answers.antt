use Rattle.std.proofs.Common.{ℕ, Some, inl, inr, refl, subst}
use Rattle.house_io.specs.Disks.{told_moments}
use Rattle.house_io.specs.Moments.{AtEach}
use Rattle.clock_book.specs.declared.origins.Origin.{Origin}
use Rattle.clock_book.specs.Past.{owner_in, IsEither}
use Rattle.clock_book.specs.Offers.{Answers, CountsOffer}
use Rattle.clock_book.proofs.books.ClockBook.mend_and_answer.Goals as goal

pub returns-in-Err-clause-answer : goal.returns-in-Err-clause-answer
returns-in-Err-clause-answer g c =
    let failed = c.in-Err.ensures.failed in
    inl (record { fault = refl; pending = failed.0; marks = failed.1; leaves = λ t. c.settle_pending.ensures.moments t })

pub returns-in-Ok-clause-answer : goal.returns-in-Ok-clause-answer
returns-in-Ok-clause-answer g c =
    let mid = c.settle_pending.new.self in
    let A : Origin → Type 0 = λ o. Answers (owner_in o) c.judge_and_append.result mid.state c.args.report c.judge_and_append.new.self.state in
    let P : Origin → Type 0 = λ o. AtEach (IsEither (owner_in o) mid.state.clock.reports (Some c.args.report)) (told_moments (g.D.Disk.shown mid.disk)) (told_moments (g.D.Disk.shown c.judge_and_append.new.self.disk)) in
    inr (record {
      mid = mid.state;
      mended = c.in-Ok.ensures.mended;
      answered = subst A c.settle_pending.ensures.origin c.judge_and_append.ensures.answer;
      leaves = λ t. record {
        between = told_moments (g.D.Disk.shown mid.disk);
        mending = c.settle_pending.ensures.moments (c.judge_and_append.ensures.later.told t);
        answering = subst P c.settle_pending.ensures.origin (c.judge_and_append.ensures.moments t);
        gate = c.in-Ok.ensures.gate (c.judge_and_append.ensures.later.told t);
      };
    })

pub returns-in-Ok-clause-faults : goal.returns-in-Ok-clause-faults
returns-in-Ok-clause-faults g c =
    subst (λ (n : ℕ). CountsOffer n (g.D.Disk.shown c.judge_and_append.new.self.disk).faults c.judge_and_append.result) c.in-Ok.ensures.cause.steady c.judge_and_append.ensures.faults
