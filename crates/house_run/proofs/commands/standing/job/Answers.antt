-- The auction and its journals are read, and then the lines are written.
use Rattle.std.proofs.Common.{◌∙◌, ap, refl}
use Rattle.std.proofs.lemmas.Result.{err_from_is_err_and}
use Rattle.std.specs.List.{flat_map}
use Rattle.clock.specs.Reports.{histories}
use Rattle.house_run.specs.StandingCommand.{standing_needs}
use Rattle.house_run.specs.Texts.{standing_of}
use Rattle.house_run.specs.declared.ends.Ended.TheVariants as how
use Rattle.house_run.proofs.commands.standing.job.Goals as goal

pub returns-in_err-house-clause-answer : goal.returns-in_err-house-clause-answer
returns-in_err-house-clause-answer g c =
    let exit = err_from_is_err_and c.from_residual.result c.from_residual.ensures.1 in
    rw (exit.1, exit.2) (c.in_err-house.ensures.ends (standing_needs c.args.auction.now c.args.journals.now) refl refl refl refl).cause

pub returns-in_err-house-clause-frame : goal.returns-in_err-house-clause-frame
returns-in_err-house-clause-frame g c =
    let exit = err_from_is_err_and c.from_residual.result c.from_residual.ensures.1 in
    rw (exit.1, exit.2) (c.in_err-house.ensures.ends (standing_needs c.args.auction.now c.args.journals.now) refl refl refl refl).frame

pub returns-in-Ok-clause-answer : goal.returns-in-Ok-clause-answer
returns-in-Ok-clause-answer g c = record {
  terms = c.in_ok-house.house.terms;
  histories = histories c.in_ok-house.house.clocks.items;
  are = c.in_ok-house.ensures.read;
  text_is = c.in-Ok.ensures ∙ ap (λ clocks. flat_map standing_of (histories clocks)) c.deref.ensures.value;
}

pub returns-in-Ok-clause-frame : goal.returns-in-Ok-clause-frame
returns-in-Ok-clause-frame g c = c.in_ok-house.ensures.frame (standing_needs c.args.auction.now c.args.journals.now) how.Done refl refl refl

pub returns-clause-frame : goal.returns-clause-frame
returns-clause-frame g c = c.in_ok-house.ensures.frame (standing_needs c.args.auction.now c.args.journals.now) how.NoMemory refl refl refl
