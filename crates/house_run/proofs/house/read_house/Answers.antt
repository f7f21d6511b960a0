-- The auction is read, and then its journals.
use Rattle.std.proofs.Common.{◌≤◌, refl, subst, sym}
use Rattle.std.proofs.lemmas.Result.{err_from_is_err_and}
use Rattle.std.specs.Prelude.{IfSome}
use Rattle.auction_file.specs.Listing.{listing_of}
use Rattle.clock.specs.Reports.{histories}
use Rattle.house_run.specs.Seen.{outside, shelf_seen}
use Rattle.house_run.specs.Steps.{LeavesSo}
use Rattle.house_run.proofs.Framing.{refused-frame}
use Rattle.house_run.proofs.HouseSteps.{house-ends, no-bidder, opened-by, read-frame, read-histories, sources-are, terms-of}
use Rattle.house_run.proofs.house.read_house.Goals as goal

pub returns-in_err-auction-clause-ends : goal.returns-in_err-auction-clause-ends
returns-in_err-auction-clause-ends g c =
    let exit = err_from_is_err_and c.from_residual.result c.from_residual.ensures.1 in
    rw (exit.1, exit.2) (λ needs a l j b.
    let seen = outside g.H.Shelf c.args.shelf.now c.read_auction.new.shelf in
    let ends = c.in_err-auction.ensures.refused needs a in
    record { cause = ends.cause; frame = refused-frame needs c.args.auction.now c.in_err-auction.field-0.0 seen (sources-are needs c.args.auction.now a l) c.read_auction.ensures.reads ends.counts })

pub returns-in-Some-clause-ends : goal.returns-in-Some-clause-ends
returns-in-Some-clause-ends g c =
    let seen = outside g.H.Shelf c.args.shelf.now c.read_auction.new.shelf in
    let auction = c.in_ok-auction.auction in
    let asked = c.in-Some.ensures.some in
    no-bidder c.args.auction.now c.args.journals.now c.args.bidder seen c.in-Some.number auction.terms (listing_of auction) asked.0 c.read_auction.ensures.reads c.in_ok-auction.ensures.steady c.in_ok-auction.ensures.read (terms-of auction) asked.1

pub returns-in-Ok-clause-read : goal.returns-in-Ok-clause-read
returns-in-Ok-clause-read g c =
    let first = shelf_seen g.H.Shelf c.args.shelf.now c.read_auction.new.shelf in
    let seen = outside g.H.Shelf c.args.shelf.now c.read_clocks.new.shelf in
    let auction = c.in_ok-auction.auction in
    let opened = opened-by c.args.auction.now c.args.journals.now first seen auction.terms auction.digest (listing_of auction) (g.H.Shelf.faults c.read_auction.new.shelf) (g.H.Shelf.opened c.read_auction.new.shelf) c.in_ok-auction.ensures.read c.in-Ok.ensures.done.files (terms-of auction) refl
    c.read_auction.ensures.reads.unchanged c.in_ok-auction.ensures.opened c.in_ok-auction.ensures.steady in
    read-histories c.args.auction.now c.args.journals.now seen auction.terms auction.digest (listing_of auction) (g.H.Shelf.files c.read_auction.new.shelf) (g.H.Shelf.faults c.read_auction.new.shelf) (g.H.Shelf.opened c.read_auction.new.shelf) (histories c.in-Ok.clocks.items) opened c.in-Ok.ensures.done c.in-Ok.ensures.read

pub returns-in-Ok-clause-frame : goal.returns-in-Ok-clause-frame
returns-in-Ok-clause-frame g c =
    let first = shelf_seen g.H.Shelf c.args.shelf.now c.read_auction.new.shelf in
    let seen = outside g.H.Shelf c.args.shelf.now c.read_clocks.new.shelf in
    let auction = c.in_ok-auction.auction in
    let opened = opened-by c.args.auction.now c.args.journals.now first seen auction.terms auction.digest (listing_of auction) (g.H.Shelf.faults c.read_auction.new.shelf) (g.H.Shelf.opened c.read_auction.new.shelf) c.in_ok-auction.ensures.read c.in-Ok.ensures.done.files (terms-of auction) refl
    c.read_auction.ensures.reads.unchanged c.in_ok-auction.ensures.opened c.in_ok-auction.ensures.steady in
    read-frame c.args.auction.now c.args.journals.now seen auction.terms auction.digest (listing_of auction) (g.H.Shelf.files c.read_auction.new.shelf) (g.H.Shelf.faults c.read_auction.new.shelf) (g.H.Shelf.opened c.read_auction.new.shelf) opened c.in-Ok.ensures.done c.in-Ok.ensures.steady

pub returns-clause-ends : goal.returns-clause-ends
returns-clause-ends g c = λ needs a l j b.
    let first = shelf_seen g.H.Shelf c.args.shelf.now c.read_auction.new.shelf in
    let seen = outside g.H.Shelf c.args.shelf.now c.read_clocks.new.shelf in
    let auction = c.in_ok-auction.auction in
    let unread = c.in-Err.unread in
    let opened = opened-by c.args.auction.now c.args.journals.now first seen auction.terms auction.digest (listing_of auction) (g.H.Shelf.faults c.read_auction.new.shelf) (g.H.Shelf.opened c.read_auction.new.shelf) c.in_ok-auction.ensures.read c.in-Err.ensures.synced.synced.files (terms-of auction) refl
    c.read_auction.ensures.reads.unchanged c.in_ok-auction.ensures.opened c.in_ok-auction.ensures.steady in
    subst (λ end. LeavesSo needs seen end) (sym c.end_at.ensures)
    (house-ends unread.fault c.args.auction.now c.args.journals.now seen auction.terms auction.digest unread.clock (listing_of auction) (g.H.Shelf.files c.read_auction.new.shelf) (g.H.Shelf.faults c.read_auction.new.shelf) (g.H.Shelf.opened c.read_auction.new.shelf) opened c.in-Err.ensures.clock c.in-Err.ensures.synced c.in-Err.ensures.ends needs a l j (subst (λ o. IfSome o (λ n. n ≤ auction.terms.bidders)) (sym b) c.in_default.ensures.none))
