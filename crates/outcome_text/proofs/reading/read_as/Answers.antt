-- A text of an outcome has its numbers, they make that outcome, and its text is the text that was read.
use Rattle.std.proofs.Common.{◌≡◌, ◌∙◌, sym, ap}
use Rattle.std.proofs.lemmas.Bool.{false≢true}
use Rattle.outcome_text.specs.Plain.{plain_text}
use Rattle.outcome_text.proofs.OutcomeNumbers.{readable, numbers-of}
use Rattle.outcome_text.proofs.reading.read_as.Goals as goal

pub returns-in-None-clause-back : goal.returns-in-None-clause-back
returns-in-None-clause-back c = λ o is shows.
    sym c.in-None.is ∙ c.in_ok-outcome.ensures.back o (readable c.args.bytes.now o is) shows (c.requires ∙ numbers-of c.args.bytes.now o is)

pub returns-then-branch-clause-back : goal.returns-then-branch-clause-back
returns-then-branch-clause-back c = λ o is shows.
    sym c.in-Some.is ∙ c.in_ok-outcome.ensures.back o (readable c.args.bytes.now o is) shows (c.requires ∙ numbers-of c.args.bytes.now o is)

pub returns-else-branch-clause-back : goal.returns-else-branch-clause-back
returns-else-branch-clause-back c = λ o is shows.
    let made = sym c.in-Some.is ∙ c.in_ok-outcome.ensures.back o (readable c.args.bytes.now o is) shows (c.requires ∙ numbers-of c.args.bytes.now o is) in
    let same : o ≡ c.in-Some.outcome = cc in
    absurd (false≢true (sym c.if-branch.false ∙ c.in_ok-is_plain_text.ensures.1 (is.spelled ∙ ap plain_text same)))
