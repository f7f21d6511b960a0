-- The auction and its journals are read, and then the clocks are settled.
use Rattle.std.proofs.Common.{refl}
use Rattle.std.proofs.lemmas.Result.{err_from_is_err_and}
use Rattle.clock.specs.Reports.{histories}
use Rattle.house_run.specs.Seen.{outside}
use Rattle.house_run.specs.SettleCommand.{settle_needs}
use Rattle.house_run.proofs.HouseSteps.{clocks-of, settled-answer}
use Rattle.house_run.proofs.commands.settle.job.Goals as goal

pub returns-in_err-house-clause-answer : goal.returns-in_err-house-clause-answer
returns-in_err-house-clause-answer g c =
    let exit = err_from_is_err_and c.from_residual.result c.from_residual.ensures.1 in
    rw (exit.1, exit.2) (c.in_err-house.ensures.ends (settle_needs c.args.auction.now c.args.journals.now) refl refl refl refl).cause

pub returns-in_err-house-clause-frame : goal.returns-in_err-house-clause-frame
returns-in_err-house-clause-frame g c =
    let exit = err_from_is_err_and c.from_residual.result c.from_residual.ensures.1 in
    rw (exit.1, exit.2) (c.in_err-house.ensures.ends (settle_needs c.args.auction.now c.args.journals.now) refl refl refl refl).frame

pub settled_text-requires : goal.settled_text-requires
settled_text-requires g c = clocks-of _ _ _ _ _ c.in_ok-house.ensures.read

pub returns-clause-answer : goal.returns-clause-answer
returns-clause-answer g c =
    let seen = outside g.H.Shelf c.args.shelf.now c.read_house.new.shelf in
    settled-answer c.settled_text.result c.args.auction.now c.args.journals.now c.args.json seen c.in_ok-house.house.terms (histories c.in_ok-house.house.clocks.items) c.in_ok-house.ensures.read c.settled_text.ensures.text c.settled_text.ensures.ends

pub returns-clause-frame : goal.returns-clause-frame
returns-clause-frame g c = c.in_ok-house.ensures.frame (settle_needs c.args.auction.now c.args.journals.now) _ refl refl refl
