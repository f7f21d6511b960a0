-- One file is read, and then the other one.
use Rattle.std.proofs.Common.{[], refl}
use Rattle.std.proofs.lemmas.Result.{err_from_is_err_and}
use Rattle.auction_file.specs.Listing.{listing_of}
use Rattle.house_run.specs.Seen.{outside, shelf_seen}
use Rattle.house_run.proofs.MoveSteps.{OldRead, files-read, first-stops, second-stops, terms-stop}
use Rattle.house_run.proofs.commands.migrate.read_files.Goals as goal

pub returns-in_err-first-clause-stops : goal.returns-in_err-first-clause-stops
returns-in_err-first-clause-stops g c =
    let exit = err_from_is_err_and c.from_residual.result c.from_residual.ensures.1 in
    rw (exit.1, exit.2) (λ journals target.
    let seen = outside g.H.Shelf c.args.shelf.now c.read_auction.new.shelf in
    first-stops c.args.old.now journals c.args.new.now target seen c.in_err-first.field-0.0 c.read_auction.ensures.reads c.in_err-first.ensures.refused)

pub returns-in_err-second-clause-stops : goal.returns-in_err-second-clause-stops
returns-in_err-second-clause-stops g c =
    let exit = err_from_is_err_and c.from_residual-in_err-second.result c.from_residual-in_err-second.ensures.1 in
    rw (exit.1, exit.2) (λ journals target.
    let seen = outside g.H.Shelf c.args.shelf.now c.read_auction-2.new.shelf in
    let files = g.H.Shelf.files c.read_auction.new.shelf in
    let faults = g.H.Shelf.faults c.read_auction.new.shelf in
    let names = g.H.Shelf.opened c.read_auction.new.shelf in
    let r : OldRead c.args.old.now seen.shelf files faults names = record { unchanged = c.read_auction.ensures.reads.unchanged; steady = c.in_ok-first.ensures.steady; opened = c.in_ok-first.ensures.opened } in
    let one = shelf_seen g.H.Shelf c.args.shelf.now c.read_auction.new.shelf in
    second-stops c.args.old.now journals c.args.new.now target seen files faults names r c.read_auction-2.ensures.reads c.in_err-second.field-0.0 (listing_of c.in_ok-first.first) one refl c.in_ok-first.ensures.read c.in_err-second.ensures.refused)

pub returns-then-is_same_auction-clause-read : goal.returns-then-is_same_auction-clause-read
returns-then-is_same_auction-clause-read g c =
    let seen = outside g.H.Shelf c.args.shelf.now c.read_auction-2.new.shelf in
    let one = shelf_seen g.H.Shelf c.args.shelf.now c.read_auction.new.shelf in
    let files = g.H.Shelf.files c.read_auction.new.shelf in
    let faults = g.H.Shelf.faults c.read_auction.new.shelf in
    let names = g.H.Shelf.opened c.read_auction.new.shelf in
    let r : OldRead c.args.old.now seen.shelf files faults names = record { unchanged = c.read_auction.ensures.reads.unchanged; steady = c.in_ok-first.ensures.steady; opened = c.in_ok-first.ensures.opened } in
    files-read c.args.old.now [] c.args.new.now [] seen files faults names r c.read_auction-2.ensures.reads c.in_ok-first.first c.in_ok-second.second one refl c.in_ok-first.ensures.read c.in_ok-second.ensures.read
    c.in_ok-second.ensures.steady c.in_ok-second.ensures.opened (c.is_same_auction.ensures.0 c.if-is_same_auction.true)

pub returns-else-is_same_auction-clause-stops : goal.returns-else-is_same_auction-clause-stops
returns-else-is_same_auction-clause-stops g c = λ journals target.
    let seen = outside g.H.Shelf c.args.shelf.now c.read_auction-2.new.shelf in
    let one = shelf_seen g.H.Shelf c.args.shelf.now c.read_auction.new.shelf in
    let files = g.H.Shelf.files c.read_auction.new.shelf in
    let faults = g.H.Shelf.faults c.read_auction.new.shelf in
    let names = g.H.Shelf.opened c.read_auction.new.shelf in
    let r : OldRead c.args.old.now seen.shelf files faults names = record { unchanged = c.read_auction.ensures.reads.unchanged; steady = c.in_ok-first.ensures.steady; opened = c.in_ok-first.ensures.opened } in
    terms-stop c.args.old.now journals c.args.new.now target seen files faults names r c.read_auction-2.ensures.reads c.in_ok-first.first c.in_ok-second.second one refl c.in_ok-first.ensures.read c.in_ok-second.ensures.read
    c.in_ok-second.ensures.steady c.in_ok-second.ensures.opened
    (λ same. let t = c.is_same_auction.ensures.1 same in let f = c.if-is_same_auction.false in let no : ⊥ = cc in no)
