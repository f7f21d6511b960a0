use Rattle.std.proofs.Common.{refl}
use Rattle.std.proofs.lemmas.Result.{err_from_is_err_and}
use Rattle.house_run.specs.CheckCommand.{check_needs}
use Rattle.house_run.specs.Causes.{Tells}
use Rattle.house_run.specs.Seen.{outside}
use Rattle.house_run.specs.declared.ends.Ended.TheVariants as how
use Rattle.house_run.proofs.Framing.{refused-frame, steady-counts}
use Rattle.house_run.proofs.commands.check.job.Goals as goal

pub returns-in_err-auction-clause-answer : goal.returns-in_err-auction-clause-answer
returns-in_err-auction-clause-answer g c =
    let exit = err_from_is_err_and c.from_residual.result c.from_residual.ensures.1 in
    rw (exit.1, exit.2) ((c.in_err-auction.ensures.refused (check_needs c.args.auction.now) refl).cause)

pub returns-in_err-auction-clause-frame : goal.returns-in_err-auction-clause-frame
returns-in_err-auction-clause-frame g c =
    let exit = err_from_is_err_and c.from_residual.result c.from_residual.ensures.1 in
    rw (exit.1, exit.2) (refused-frame (check_needs c.args.auction.now) c.args.auction.now c.in_err-auction.field-0.0 _ refl c.read_auction.ensures.reads (c.in_err-auction.ensures.refused (check_needs c.args.auction.now) refl).counts)

pub returns-in-Ok-clause-frame : goal.returns-in-Ok-clause-frame
returns-in-Ok-clause-frame g c =
    let needs = check_needs c.args.auction.now in
    let seen = outside g.H.Shelf c.args.shelf.now c.read_auction.new.shelf in
    refused-frame needs c.args.auction.now how.Done seen refl c.read_auction.ensures.reads (steady-counts (Tells needs how.Done) seen.shelf c.in_ok-auction.ensures.steady)

pub returns-clause-frame : goal.returns-clause-frame
returns-clause-frame g c =
    let needs = check_needs c.args.auction.now in
    let seen = outside g.H.Shelf c.args.shelf.now c.read_auction.new.shelf in
    refused-frame needs c.args.auction.now how.NoMemory seen refl c.read_auction.ensures.reads (steady-counts (Tells needs how.NoMemory) seen.shelf c.in_ok-auction.ensures.steady)
