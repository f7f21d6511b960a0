use Rattle.std.proofs.lemmas.Result.{err_from_is_err_and}
use Rattle.auction_file.specs.AuctionFile.{good_at}
use Rattle.auction_file.proofs.Turns.{each-turn, each-refused}
use Rattle.auction_file.proofs.goods_list.each_good.Goals as goal

pub returns-in_err-good : goal.returns-in_err-good
returns-in_err-good c =
    let exit = err_from_is_err_and c.from_residual.result c.from_residual.ensures.1 in
    rw (exit.1, exit.2)
    (λ room. each-refused (good_at c.args.version c.args.ceiling) c.args.elements.now c.loop-place.place c.index-elements-place.result c.loop-place.goods.items c.in_err-good.field-0.0 c.loop-place-test.true c.index-elements-place.is (c.in_err-good.ensures room) c.loop-place.invariant)

pub loop-place-preserved : goal.loop-place-preserved
loop-place-preserved c =
    rw c.in_ok-push.ensures.items
    (each-turn (good_at c.args.version c.args.ceiling) c.args.elements.now c.loop-place.place c.index-elements-place.result c.loop-place.goods.items c.in_ok-good.good c.loop-place-test.true c.index-elements-place.is c.in_ok-good.ensures c.loop-place.invariant)
