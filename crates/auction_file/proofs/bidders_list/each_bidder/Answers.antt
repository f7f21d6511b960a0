use Rattle.std.proofs.Common.{rules}
use Rattle.std.proofs.lemmas.Result.{err_from_is_err_and}
use Rattle.auction_file.specs.AuctionFile.{bidder_at}
use Rattle.auction_file.proofs.Turns.{each-turn, each-refused}
use Rattle.auction_file.proofs.bidders_list.each_bidder.Goals as goal

pub returns-in_err-bidder-clause-bidders : goal.returns-in_err-bidder-clause-bidders
returns-in_err-bidder-clause-bidders c =
    let exit = err_from_is_err_and c.from_residual.result c.from_residual.ensures.1 in
    rw (exit.1, exit.2)
    (λ room. each-refused bidder_at c.args.elements.now c.loop-place.place c.index-elements-place.result c.loop-place.bidders.items c.in_err-bidder.field-0.0 c.loop-place-test.true c.index-elements-place.is (c.in_err-bidder.ensures room) c.loop-place.invariant.so_far)

pub loop-place-preserved : goal.loop-place-preserved
loop-place-preserved c = record {
  so_far = rw c.in_ok-push.ensures.items
      (each-turn bidder_at c.args.elements.now c.loop-place.place c.index-elements-place.result c.loop-place.bidders.items c.in_ok-bidder.bidder c.loop-place-test.true c.index-elements-place.is c.in_ok-bidder.ensures c.loop-place.invariant.so_far);
  count = search rules;
}
