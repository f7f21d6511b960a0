-- The auction is read, then it is seen whether its clocks can start at the prices, and then the valuations are read.
use Rattle.std.proofs.Common.{refl}
use Rattle.std.proofs.lemmas.Result.{err_from_is_err_and}
use Rattle.auction_file.specs.Listing.{listing_of}
use Rattle.house_run.specs.Seen.{outside}
use Rattle.house_run.specs.FloatCommand.{float_needs}
use Rattle.house_run.proofs.HouseSteps.{terms-of}
use Rattle.house_run.proofs.Framing.{steady-counts}
use Rattle.house_run.proofs.MarketSteps.{auction-ends, market-frame, market-read, start-ends, terms-then, float-two, values-ends, known-by}
use Rattle.house_run.specs.Causes.{Tells}
use Rattle.house_run.specs.Seen.{shelf_seen}
use Rattle.house_run.proofs.markets.read_started.Goals as goal

pub returns-in_err-auction-clause-ends : goal.returns-in_err-auction-clause-ends
returns-in_err-auction-clause-ends g c =
    let exit = err_from_is_err_and c.from_residual.result c.from_residual.ensures.1 in
    let seen = outside g.H.Shelf c.args.shelf.now c.read_auction.new.shelf in
    rw (exit.1, exit.2) (auction-ends (float_needs c.args.auction.now c.args.values.now c.args.start.now) c.args.auction.now c.args.values.now seen c.in_err-auction.field-0.0 (float-two c.args.auction.now c.args.values.now c.args.start.now) c.read_auction.ensures.reads (c.in_err-auction.ensures.refused (float_needs c.args.auction.now c.args.values.now c.args.start.now) refl))

pub returns-in_err-check_start-clause-ends : goal.returns-in_err-check_start-clause-ends
returns-in_err-check_start-clause-ends g c =
    let exit = err_from_is_err_and c.from_residual-in_err-check_start.result c.from_residual-in_err-check_start.ensures.1 in
    let seen = outside g.H.Shelf c.args.shelf.now c.read_auction.new.shelf in
    let auction = c.in_ok-auction.auction in
    rw (exit.1, exit.2) (start-ends c.in_err-check_start.field-0.0 c.args.auction.now c.args.values.now c.args.start.now seen auction.terms (listing_of auction) c.read_auction.ensures.reads c.in_ok-auction.ensures.steady c.in_ok-auction.ensures.read (terms-of auction) c.in_err-check_start.ensures.ends)

pub returns-clause-read : goal.returns-clause-read
returns-clause-read g c =
    let seen = outside g.H.Shelf c.args.shelf.now c.read_values.new.shelf in
    let auction = c.in_ok-auction.auction in
    let files = g.H.Shelf.files c.read_auction.new.shelf in
    let faults = g.H.Shelf.faults c.read_auction.new.shelf in
    let names = g.H.Shelf.opened c.read_auction.new.shelf in
    let known = known-by c.args.auction.now seen auction.terms (listing_of auction) files faults names c.in_ok-auction.ensures.read (terms-of auction) c.read_auction.ensures.reads.unchanged c.in_ok-auction.ensures.opened c.in_ok-auction.ensures.steady in
    market-read c.args.auction.now c.args.values.now seen auction.terms c.in_ok-valuations.valuations.items files faults names known c.read_values.ensures.reads c.in_ok-valuations.ensures.read

pub returns-clause-frame : goal.returns-clause-frame
returns-clause-frame g c = λ end.
    let seen = outside g.H.Shelf c.args.shelf.now c.read_values.new.shelf in
    let auction = c.in_ok-auction.auction in
    let files = g.H.Shelf.files c.read_auction.new.shelf in
    let faults = g.H.Shelf.faults c.read_auction.new.shelf in
    let names = g.H.Shelf.opened c.read_auction.new.shelf in
    let known = known-by c.args.auction.now seen auction.terms (listing_of auction) files faults names c.in_ok-auction.ensures.read (terms-of auction) c.read_auction.ensures.reads.unchanged c.in_ok-auction.ensures.opened c.in_ok-auction.ensures.steady in
    let second = shelf_seen g.H.Shelf c.read_auction.new.shelf c.read_values.new.shelf in
    market-frame (float_needs c.args.auction.now c.args.values.now c.args.start.now) c.args.auction.now c.args.values.now seen auction.terms files faults names end (float-two c.args.auction.now c.args.values.now c.args.start.now) known c.read_values.ensures.reads (steady-counts (Tells (float_needs c.args.auction.now c.args.values.now c.args.start.now) end) second c.in_ok-valuations.ensures.steady)

pub returns-in_err-valuations-clause-ends : goal.returns-in_err-valuations-clause-ends
returns-in_err-valuations-clause-ends g c =
    let exit = err_from_is_err_and c.from_residual-in_err-valuations.result c.from_residual-in_err-valuations.ensures.1 in
    let seen = outside g.H.Shelf c.args.shelf.now c.read_values.new.shelf in
    let auction = c.in_ok-auction.auction in
    let files = g.H.Shelf.files c.read_auction.new.shelf in
    let faults = g.H.Shelf.faults c.read_auction.new.shelf in
    let names = g.H.Shelf.opened c.read_auction.new.shelf in
    let known = known-by c.args.auction.now seen auction.terms (listing_of auction) files faults names c.in_ok-auction.ensures.read (terms-of auction) c.read_auction.ensures.reads.unchanged c.in_ok-auction.ensures.opened c.in_ok-auction.ensures.steady in
    let has = terms-then c.args.auction.now seen auction.terms files faults names known c.read_values.ensures.reads.unchanged in
    rw (exit.1, exit.2) (values-ends c.in_err-valuations.field-0.0 (float_needs c.args.auction.now c.args.values.now c.args.start.now) c.args.auction.now c.args.values.now seen auction.terms files faults names (float-two c.args.auction.now c.args.values.now c.args.start.now) known (record { terms_are = has; has_bidder = tt; starts = c.in_ok-check_start.ensures.starts }) c.read_values.ensures.reads c.in_err-valuations.ensures.refused)
