-- The market of two files is floated.
use Rattle.std.proofs.Common.{◌∙◌, List, ℕ, ap, subst}
use Rattle.std.proofs.lemmas.Result.{err_from_is_err_and}
use Rattle.two_way.specs.FloatHistories.{IsFloat}
use Rattle.house_run.specs.Markets.{market_bidders}
use Rattle.house_run.specs.Seen.{outside}
use Rattle.house_run.specs.Steps.{IsTrialEnd}
use Rattle.house_run.proofs.Floating.{choices-count}
use Rattle.house_run.proofs.MarketSteps.{float-ends}
use Rattle.house_run.proofs.commands.float.job.Goals as goal

pub returns-in_err-floated-clause-answer : goal.returns-in_err-floated-clause-answer
returns-in_err-floated-clause-answer g c =
    let exit = err_from_is_err_and c.from_residual-in_err-floated.result c.from_residual-in_err-floated.ensures.1 in
    let seen = outside g.H.Shelf c.args.shelf.now c.read_started.new.shelf in
    let terms = c.in_ok-market.market.terms in
    let E : List (List ℕ) → Type 0 = λ vs. IsTrialEnd terms vs c.in_err-floated.field-0.0 in
    rw (exit.1, exit.2) (float-ends c.in_err-floated.field-0.0 c.args.auction.now c.args.values.now c.args.start.now seen terms c.in_ok-market.market.valuations.items c.in_ok-market.ensures.read (subst E c.as_slice-valuations.ensures.value c.in_err-floated.ensures.ends))

pub returns-in_err-floated-clause-frame : goal.returns-in_err-floated-clause-frame
returns-in_err-floated-clause-frame g c =
    let exit = err_from_is_err_and c.from_residual-in_err-floated.result c.from_residual-in_err-floated.ensures.1 in
    rw (exit.1, exit.2) (c.in_ok-market.ensures.frame c.in_err-floated.field-0.0)

pub float_text-requires : goal.float_text-requires
float_text-requires g c =
    let f = c.in_ok-floated.floated in
    choices-count f.clocks.items f.prices f.rows f.choices c.in_ok-floated.ensures.floats.floated

pub returns-in-Ok-clause-answer : goal.returns-in-Ok-clause-answer
returns-in-Ok-clause-answer g c =
    let terms = c.in_ok-market.market.terms in
    let f = c.in_ok-floated.floated in
    let F : List (List ℕ) → Type 0 = λ vs. IsFloat terms (market_bidders terms vs) c.args.start.now f.clocks.items f.prices f.rows f.choices in
    record {
      terms = terms;
      valuations = c.in_ok-market.market.valuations.items;
      market = c.in_ok-market.ensures.read;
      clocks = f.clocks.items;
      prices = f.prices;
      rows = f.rows;
      choices = f.choices;
      floats = subst F c.as_slice-valuations.ensures.value c.in_ok-floated.ensures.floats;
      text_is = ap (λ v. v.items) c.into_bytes.ensures.value ∙ c.in-Ok.ensures;
    }

pub returns-in-Ok-clause-frame : goal.returns-in-Ok-clause-frame
returns-in-Ok-clause-frame g c = c.in_ok-market.ensures.frame _

pub returns-clause-frame : goal.returns-clause-frame
returns-clause-frame g c = c.in_ok-market.ensures.frame _
