use Rattle.std.proofs.Common.{refl}
use Rattle.lot_base.specs.Goods.{raised}
use Rattle.lot_base.proofs.Cells.{changed-cells, keeps-raised}
use Rattle.lot_base.proofs.pricing.six_raised.Goals as goal

pub returns : goal.returns
returns c = changed-cells raised keeps-raised _ _ _ c.args.prices.now c.args.set c.requires.few refl c.copy_from_slice.ensures.after c.raise_each.ensures
