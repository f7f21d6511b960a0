use Rattle.lot_base.proofs.Lists.{IsIn-box, AtMost-box}
use Rattle.lot_base.proofs.laws.box_law.Goals as goal

pub returns : goal.returns
returns c = λ supply x. (AtMost-box x supply, IsIn-box x supply)
