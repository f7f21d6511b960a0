-- The market of two files is tried.
use Rattle.std.proofs.Common.{List, ℕ, subst}
use Rattle.std.proofs.lemmas.Result.{err_from_is_err_and}
use Rattle.house_run.specs.Markets.{TriesAs}
use Rattle.house_run.specs.Seen.{outside}
use Rattle.house_run.specs.Steps.{IsTrialEnd}
use Rattle.house_run.proofs.MarketSteps.{trial-ends}
use Rattle.house_run.proofs.commands.trials.job.Goals as goal

pub returns-in_err-outcome-clause-answer : goal.returns-in_err-outcome-clause-answer
returns-in_err-outcome-clause-answer g c =
    let exit = err_from_is_err_and c.from_residual-in_err-outcome.result c.from_residual-in_err-outcome.ensures.1 in
    let seen = outside g.H.Shelf c.args.shelf.now c.read_market.new.shelf in
    let terms = c.in_ok-market.market.terms in
    let E : List (List ℕ) → Type 0 = λ vs. IsTrialEnd terms vs c.in_err-outcome.field-0.0 in
    rw (exit.1, exit.2) (trial-ends c.in_err-outcome.field-0.0 c.args.auction.now c.args.values.now seen terms c.in_ok-market.market.valuations.items c.in_ok-market.ensures.read (subst E c.as_slice-valuations.ensures.value c.in_err-outcome.ensures.ends))

pub returns-in_err-outcome-clause-frame : goal.returns-in_err-outcome-clause-frame
returns-in_err-outcome-clause-frame g c =
    let exit = err_from_is_err_and c.from_residual-in_err-outcome.result c.from_residual-in_err-outcome.ensures.1 in
    rw (exit.1, exit.2) (c.in_ok-market.ensures.frame c.in_err-outcome.field-0.0)

pub returns-in-Ok-clause-answer : goal.returns-in-Ok-clause-answer
returns-in-Ok-clause-answer g c =
    let terms = c.in_ok-market.market.terms in
    let T : List (List ℕ) → Type 0 = λ vs. TriesAs terms vs c.in_ok-outcome.outcome in
    record {
      terms = terms;
      valuations = c.in_ok-market.market.valuations.items;
      market = c.in_ok-market.ensures.read;
      outcome = c.in_ok-outcome.outcome;
      tries = subst T c.as_slice-valuations.ensures.value c.in_ok-outcome.ensures.tries;
      text_is = c.in-Ok.ensures;
    }

pub returns-in-Ok-clause-frame : goal.returns-in-Ok-clause-frame
returns-in-Ok-clause-frame g c = c.in_ok-market.ensures.frame _

pub returns-clause-frame : goal.returns-clause-frame
returns-clause-frame g c = c.in_ok-market.ensures.frame _
