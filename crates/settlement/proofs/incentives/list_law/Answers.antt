use Rattle.settlement.proofs.PriceBounds.{pays-same}
use Rattle.settlement.proofs.incentives.list_law.Goals as goal

pub returns : goal.returns
returns c = pays-same
