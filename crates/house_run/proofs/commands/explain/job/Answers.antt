-- The auction and its journals are read, and then the clocks are explained.
use Rattle.std.proofs.Common.{◌≡◌, List, refl, subst, sym}
use Rattle.std.proofs.lemmas.Result.{err_from_is_err_and}
use Rattle.std.specs.List.{AllByRecursion}
use Rattle.clock.specs.Reports.{ClockHistory, ClockOf, histories}
use Rattle.house_run.specs.ExplainCommand.{IsExplainedText, explain_needs}
use Rattle.house_run.specs.declared.ends.Ended.TheVariants as how
use Rattle.house_run.proofs.HouseSteps.{clocks-of}
use Rattle.house_run.proofs.commands.explain.job.Goals as goal

pub returns-in_err-house-clause-answer : goal.returns-in_err-house-clause-answer
returns-in_err-house-clause-answer g c =
    let exit = err_from_is_err_and c.from_residual.result c.from_residual.ensures.1 in
    rw (exit.1, exit.2) (c.in_err-house.ensures.ends (explain_needs c.args.auction.now c.args.journals.now) refl refl refl refl).cause

pub returns-in_err-house-clause-frame : goal.returns-in_err-house-clause-frame
returns-in_err-house-clause-frame g c =
    let exit = err_from_is_err_and c.from_residual.result c.from_residual.ensures.1 in
    rw (exit.1, exit.2) (c.in_err-house.ensures.ends (explain_needs c.args.auction.now c.args.journals.now) refl refl refl refl).frame

pub explained_text-requires : goal.explained_text-requires
explained_text-requires g c =
    let P : List ClockOf → Type 0 = λ clocks. AllByRecursion (λ (k : ClockHistory). k.terms ≡ c.in_ok-house.house.terms) (histories clocks) in
    subst P (sym c.deref.ensures.value) (clocks-of _ _ _ _ _ c.in_ok-house.ensures.read).terms_are

pub returns-in-Ok-clause-answer : goal.returns-in-Ok-clause-answer
returns-in-Ok-clause-answer g c =
    let P : List ClockOf → Type 0 = λ clocks. IsExplainedText (histories clocks) c.in-Ok.text.items in
    record {
      terms = c.in_ok-house.house.terms;
      histories = histories c.in_ok-house.house.clocks.items;
      are = c.in_ok-house.ensures.read;
      told = subst P c.deref.ensures.value c.in-Ok.ensures;
    }

pub returns-in-Ok-clause-frame : goal.returns-in-Ok-clause-frame
returns-in-Ok-clause-frame g c = c.in_ok-house.ensures.frame (explain_needs c.args.auction.now c.args.journals.now) how.Done refl refl refl

pub returns-clause-frame : goal.returns-clause-frame
returns-clause-frame g c = c.in_ok-house.ensures.frame (explain_needs c.args.auction.now c.args.journals.now) how.NoMemory refl refl refl
