-- The market of the number is tried.
use Rattle.std.proofs.Common.{◌∙◌, List, ℕ, ap, subst}
use Rattle.std.proofs.lemmas.Result.{err_from_is_err_and}
use Rattle.house_run.specs.Markets.{TriesAs}
use Rattle.house_run.specs.Seen.{outside}
use Rattle.house_run.specs.Steps.{IsTrialEnd}
use Rattle.house_run.proofs.MarketSteps.{make-ends}
use Rattle.house_run.proofs.commands.make.job.Goals as goal

pub returns-in_err-outcome-clause-answer : goal.returns-in_err-outcome-clause-answer
returns-in_err-outcome-clause-answer g c =
    let exit = err_from_is_err_and c.from_residual.result c.from_residual.ensures.1 in
    let seen = outside g.H.Shelf c.args.shelf.now c.args.shelf.now in
    let terms = c.in-Ok.market.0 in
    let E : List (List ℕ) → Type 0 = λ vs. IsTrialEnd terms vs c.in_err-outcome.field-0.0 in
    rw (exit.1, exit.2) (make-ends c.in_err-outcome.field-0.0 c.args.number seen terms c.in-Ok.market.1.items c.in-Ok.ensures (subst E c.as_slice.ensures.value c.in_err-outcome.ensures.ends))

pub returns-in-Ok-line_of-clause-answer : goal.returns-in-Ok-line_of-clause-answer
returns-in-Ok-line_of-clause-answer g c =
    let terms = c.in-Ok.market.0 in
    let T : List (List ℕ) → Type 0 = λ vs. TriesAs terms vs c.in_ok-outcome.outcome in
    record {
      terms = terms;
      valuations = c.in-Ok.market.1.items;
      made = c.in-Ok.ensures;
      outcome = c.in_ok-outcome.outcome;
      tries = subst T c.as_slice.ensures.value c.in_ok-outcome.ensures.tries;
      text_is = ap (λ v. v.items) c.into_bytes.ensures.value ∙ c.in-Ok-line_of.ensures;
    }
