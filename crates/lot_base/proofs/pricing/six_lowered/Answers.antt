use Rattle.std.proofs.Common.{refl}
use Rattle.lot_base.specs.Goods.{lowered}
use Rattle.lot_base.proofs.Cells.{changed-cells, keeps-lowered}
use Rattle.lot_base.proofs.pricing.six_lowered.Goals as goal

pub returns : goal.returns
returns c = changed-cells lowered keeps-lowered _ _ _ c.args.prices.now c.args.set c.requires.few refl c.copy_from_slice.ensures.after c.lower_each.ensures
