-- The test on the bundle of all units is that on the supply.
use Rattle.std.proofs.Common.{◌∙◌}
use Rattle.lot_base.proofs.Within.{fits-means}
use Rattle.lot_base.proofs.supply.Goods.fits.Goals as goal

pub returns-clause-fits : goal.returns-clause-fits
returns-clause-fits c = fits-means _ _ _ _ c.is_within.ensures (c.as_slice.ensures.value ∙ c.self.view_is)
