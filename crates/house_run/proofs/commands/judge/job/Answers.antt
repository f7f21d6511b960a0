-- The auction and its journals are read, and then the bidder is judged.
use Rattle.std.proofs.Common.{refl}
use Rattle.std.proofs.lemmas.Result.{err_from_is_err_and}
use Rattle.clock.specs.Reports.{histories}
use Rattle.house_run.specs.JudgeCommand.{judge_needs}
use Rattle.house_run.specs.declared.ends.Ended.TheVariants as how
use Rattle.house_run.proofs.HouseSteps.{clocks-of}
use Rattle.house_run.proofs.commands.judge.job.Goals as goal

pub returns-in_err-house-clause-answer : goal.returns-in_err-house-clause-answer
returns-in_err-house-clause-answer g c =
    let exit = err_from_is_err_and c.from_residual.result c.from_residual.ensures.1 in
    rw (exit.1, exit.2) (c.in_err-house.ensures.ends (judge_needs c.args.auction.now c.args.journals.now c.args.bidder) refl refl refl refl).cause

pub returns-in_err-house-clause-frame : goal.returns-in_err-house-clause-frame
returns-in_err-house-clause-frame g c =
    let exit = err_from_is_err_and c.from_residual.result c.from_residual.ensures.1 in
    rw (exit.1, exit.2) (c.in_err-house.ensures.ends (judge_needs c.args.auction.now c.args.journals.now c.args.bidder) refl refl refl refl).frame

pub judged_text-requires : goal.judged_text-requires
judged_text-requires g c = clocks-of _ _ _ _ _ c.in_ok-house.ensures.read

pub returns-in-Ok-clause-answer : goal.returns-in-Ok-clause-answer
returns-in-Ok-clause-answer g c =
    record { terms = c.in_ok-house.house.terms; histories = histories c.in_ok-house.house.clocks.items; are = c.in_ok-house.ensures.read; told = c.in-Ok.ensures }

pub returns-in-Ok-clause-frame : goal.returns-in-Ok-clause-frame
returns-in-Ok-clause-frame g c = c.in_ok-house.ensures.frame (judge_needs c.args.auction.now c.args.journals.now c.args.bidder) how.Done refl refl refl

pub returns-clause-frame : goal.returns-clause-frame
returns-clause-frame g c = c.in_ok-house.ensures.frame (judge_needs c.args.auction.now c.args.journals.now c.args.bidder) how.NoMemory refl refl refl
