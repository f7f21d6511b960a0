use Rattle.std.proofs.Common.{◌≡◌, length, arith}
use Rattle.std.specs.Prelude.{min}
use Rattle.std.proofs.lemmas.Slice.Zip.{zip_end}
use Rattle.lot_base.proofs.Costs.{cost-behind}
use Rattle.lot_base.proofs.bundles.cost_of.Goals as goal

pub returns : goal.returns
returns c =
    let turns : length c.loop-price.yielded ≡ min (length c.args.prices.now) (length c.args.quantities.now) =
    zip_end c.args.prices.now c.args.quantities.now c.loop-price.yielded c.into_iter-price-iterator.result c.loop-price.price-iterator c.next.new.self c.next.result (cc) (cc) c.loop-price.yielded_by c.in-None.is c.next.ensures.steps in
    omega (arith, cost-behind c.args.prices.now c.args.quantities.now (length c.loop-price.yielded) turns)
