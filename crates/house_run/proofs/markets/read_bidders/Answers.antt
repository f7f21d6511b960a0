-- The auction is read, then it is seen whether it has the bidder, and then the valuations are read.
use Rattle.std.proofs.Common.{◌≤◌, inl, refl, arith}
use Rattle.std.proofs.lemmas.Result.{err_from_is_err_and}
use Rattle.auction_file.specs.Listing.{listing_of}
use Rattle.house_run.specs.BidCommand.{bid_needs}
use Rattle.house_run.specs.Causes.{Tells}
use Rattle.house_run.specs.Seen.{outside, shelf_seen}
use Rattle.house_run.proofs.Framing.{steady-counts}
use Rattle.house_run.proofs.HouseSteps.{terms-of}
use Rattle.house_run.proofs.MarketSteps.{auction-ends, bid-two, known-by, market-frame, market-read, no-bidder, terms-then, values-ends}
use Rattle.house_run.proofs.markets.read_bidders.Goals as goal

pub returns-in_err-auction-clause-ends : goal.returns-in_err-auction-clause-ends
returns-in_err-auction-clause-ends g c =
    let exit = err_from_is_err_and c.from_residual.result c.from_residual.ensures.1 in
    rw (exit.1, exit.2) (λ b same.
    let seen = outside g.H.Shelf c.args.shelf.now c.read_auction.new.shelf in
    let auction = c.args.auction.now in
    let values = c.args.values.now in
    let leaves = auction-ends (bid_needs auction values b) auction values seen c.in_err-auction.field-0.0 (bid-two auction values b) c.read_auction.ensures.reads (c.in_err-auction.ensures.refused (bid_needs auction values b) refl) in
    record { cause = λ net. inl leaves.cause; frame = leaves.frame })

pub returns-then-auction-bidder-clause-ends : goal.returns-then-auction-bidder-clause-ends
returns-then-auction-bidder-clause-ends g c = λ b same.
    let seen = outside g.H.Shelf c.args.shelf.now c.read_auction.new.shelf in
    let auction = c.in_ok-auction.auction in
    no-bidder c.args.auction.now c.args.values.now b seen c.args.bidder auction.terms (listing_of auction) same c.read_auction.ensures.reads c.in_ok-auction.ensures.steady c.in_ok-auction.ensures.read (terms-of auction) (omega arith)

pub returns-clause-read : goal.returns-clause-read
returns-clause-read g c =
    let seen = outside g.H.Shelf c.args.shelf.now c.read_values.new.shelf in
    let auction = c.in_ok-auction.auction in
    let files = g.H.Shelf.files c.read_auction.new.shelf in
    let faults = g.H.Shelf.faults c.read_auction.new.shelf in
    let names = g.H.Shelf.opened c.read_auction.new.shelf in
    let known = known-by c.args.auction.now seen auction.terms (listing_of auction) files faults names c.in_ok-auction.ensures.read (terms-of auction) c.read_auction.ensures.reads.unchanged c.in_ok-auction.ensures.opened c.in_ok-auction.ensures.steady in
    market-read c.args.auction.now c.args.values.now seen auction.terms c.in_ok-valuations.valuations.items files faults names known c.read_values.ensures.reads c.in_ok-valuations.ensures.read

pub returns-clause-frame : goal.returns-clause-frame
returns-clause-frame g c = λ b end.
    let seen = outside g.H.Shelf c.args.shelf.now c.read_values.new.shelf in
    let auction = c.in_ok-auction.auction in
    let files = g.H.Shelf.files c.read_auction.new.shelf in
    let faults = g.H.Shelf.faults c.read_auction.new.shelf in
    let names = g.H.Shelf.opened c.read_auction.new.shelf in
    let known = known-by c.args.auction.now seen auction.terms (listing_of auction) files faults names c.in_ok-auction.ensures.read (terms-of auction) c.read_auction.ensures.reads.unchanged c.in_ok-auction.ensures.opened c.in_ok-auction.ensures.steady in
    let second = shelf_seen g.H.Shelf c.read_auction.new.shelf c.read_values.new.shelf in
    let needs = bid_needs c.args.auction.now c.args.values.now b in
    market-frame needs c.args.auction.now c.args.values.now seen auction.terms files faults names end (bid-two c.args.auction.now c.args.values.now b) known c.read_values.ensures.reads (steady-counts (Tells needs end) second c.in_ok-valuations.ensures.steady)

pub returns-in_err-valuations-clause-ends : goal.returns-in_err-valuations-clause-ends
returns-in_err-valuations-clause-ends g c =
    let exit = err_from_is_err_and c.from_residual-in_err-valuations.result c.from_residual-in_err-valuations.ensures.1 in
    rw (exit.1, exit.2) (λ b same.
    let seen = outside g.H.Shelf c.args.shelf.now c.read_values.new.shelf in
    let auction = c.in_ok-auction.auction in
    let files = g.H.Shelf.files c.read_auction.new.shelf in
    let faults = g.H.Shelf.faults c.read_auction.new.shelf in
    let names = g.H.Shelf.opened c.read_auction.new.shelf in
    let known = known-by c.args.auction.now seen auction.terms (listing_of auction) files faults names c.in_ok-auction.ensures.read (terms-of auction) c.read_auction.ensures.reads.unchanged c.in_ok-auction.ensures.opened c.in_ok-auction.ensures.steady in
    let has_terms = terms-then c.args.auction.now seen auction.terms files faults names known c.read_values.ensures.reads.unchanged in
    let needs = bid_needs c.args.auction.now c.args.values.now b in
    let within : b.bidder ≤ auction.terms.bidders = omega arith in
    let leaves = values-ends c.in_err-valuations.field-0.0 needs c.args.auction.now c.args.values.now seen auction.terms files faults names (bid-two c.args.auction.now c.args.values.now b) known (record { terms_are = has_terms; has_bidder = within; starts = tt }) c.read_values.ensures.reads c.in_err-valuations.ensures.refused in
    record { cause = λ net. inl leaves.cause; frame = leaves.frame })
