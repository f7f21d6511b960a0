-- A payload is taken unread, or read and taken, or it spells no report that the clock takes.
use Rattle.std.proofs.Common.{◌≡◌, ◌∙◌, ap, subst}
use Rattle.demand_set.specs.declared.reports.Report.{Report}
use Rattle.clock.specs.Reports.{ClockOf}
use Rattle.clock.specs.Judging.{judgement_of}
use Rattle.clock.specs.declared.judging.Judgement.TheVariants.{Take}
use Rattle.recovery.proofs.Spelling.{one-report}
use Rattle.clock_book.proofs.PayloadsAgain.{not-done}
use Rattle.report_log.proofs.entries.take_payload.Goals as goal

pub returns-then-branch-clause-some : goal.returns-then-branch-clause-some
returns-then-branch-clause-some c = λ done.
    let taken = c.in_ok-take_again.ensures.done c.if-branch.true in
    record { report = taken.report; spells = taken.spells; take = taken.taken; new_is = ap (λ (k : ClockOf). k.history) taken.applied_is }

pub returns-in_default-clause-none : goal.returns-in_default-clause-none
returns-in_default-clause-none c = λ not_taken.
    let left = c.in_ok-take_again.ensures.left (not-done c.in_ok-take_again.field-0 c.if-branch.false) in
    let spells_none = rw c.in_default.is at c.in_ok-report.ensures.none in
    record { none = λ r spells take. spells_none r spells; same = ap (λ (k : ClockOf). k.history) left }

pub returns-in_default-judge-clause-none : goal.returns-in_default-judge-clause-none
returns-in_default-judge-clause-none c = λ not_taken.
    let left = c.in_ok-take_again.ensures.left (not-done c.in_ok-take_again.field-0 c.if-branch.false) in
    record {
      none = λ r spells take.
          let same = one-report c.args.terms.now c.args.payload.now r c.in-Some.report spells (rw c.in-Some.is at c.in_ok-report.ensures.some) in
          let here : judgement_of c.take_again.new.clock.history c.in-Some.report ≡ Take =
          subst (λ (x : Report). judgement_of c.take_again.new.clock.history x ≡ Take) same (ap (λ (k : ClockOf). judgement_of k.history r) left ∙ take) in
          c.in_default-judge.not-Take (c.judge.ensures.value ∙ here);
      same = ap (λ (k : ClockOf). k.history) left;
    }
